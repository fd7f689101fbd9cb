-- What the server does with a session is what its client does.
use Rattle.std.proofs.Common.{◌≡◌, ℕ, ◌-◌, true, false, not, nat_lt, if◌then◌else◌, List, length, Some, Ok, Err, refl}
use Rattle.std.proofs.Common.{sym, ap, ◌∙◌, arith}
use Rattle.protocol.specs.Catalog.{Config}
use Rattle.protocol.specs.History.{Arrival}
use Rattle.protocol.specs.Client.{Client, is_nothing, filled, filled_in, offered}
use Rattle.protocol.proofs.FoundLemmas.{both}
use Rattle.session_state.specs.declared.session.State.TheVariants.{Negotiating, Ending}
use Rattle.session_state.specs.declared.session.Settled.TheVariants.{Rest}
use Rattle.session_state.specs.Sessions.{SessionValue, client_in, Comes}
use Rattle.transfer.proofs.PassedLemmas.{keeps-passed}
use Rattle.server_core.specs.Refusals.{receipt}
use Rattle.server_core.specs.declared.client.ReceiveRefusal.TheVariants.{NoRoom}

-- ---- offers

filled_some : (h : List Arrival) (c : Client) (w : List ℕ) → is_nothing w ≡ false → c ≡ filled h c w
filled_some h c w some = rw some

pub offered-waiting : (h : List Arrival) (c : Client) → is_nothing c.waiting ≡ false → c ≡ offered h c
offered-waiting h c some = filled_some h c c.waiting some

offered-empty : (h : List Arrival) (c : Client) → is_nothing c.waiting ≡ true → offered h c ≡ filled_in h c c.state
offered-empty h c none = ap (λ b. if b then filled_in h c c.state else c) none

pub fill-waiting : (config : Config) (h : List Arrival) (s : SessionValue) → is_nothing s.waiting ≡ false
    → client_in config h s ≡ offered h (client_in config h s)
fill-waiting config h s some = offered-waiting h (client_in config h s) some

pub fill-negotiating : (config : Config) (h : List Arrival) (s : SessionValue) → s.state ≡ Negotiating
    → is_nothing s.waiting ≡ true → client_in config h s ≡ offered h (client_in config h s)
fill-negotiating config h s state none =
    sym (offered-empty h (client_in config h s) none
    ∙ ap (λ t. filled_in h (client_in config h s) (client_in config h (record s { state = t })).state) state)

pub fill-ending : (config : Config) (h : List Arrival) (s : SessionValue) → s.state ≡ Ending
    → is_nothing s.waiting ≡ true → client_in config h s ≡ offered h (client_in config h s)
fill-ending config h s state none =
    sym (offered-empty h (client_in config h s) none
    ∙ ap (λ t. filled_in h (client_in config h s) (client_in config h (record s { state = t })).state) state)

pub ruleset fill_lemmas = (fill-waiting, fill-negotiating, fill-ending, keeps-passed)

-- ---- transfers that start

pub proceeds : (config : Config) (h : List Arrival) (s : SessionValue) (c : Client) → Comes Rest config h s c
    → client_in config h s ≡ c
proceeds config h s c comes = comes

pub ruleset proceed_lemmas = (proceeds, keeps-passed)

pub receipt-taken : (config : Config) (h : List Arrival) (s : SessionValue) (n : ℕ)
    → true ≡ not (nat_lt (1024 - length s.unread) n) → Ok tt ≡ receipt n (Some (client_in config h s))
receipt-taken config h s n e = both (nat_lt (1024 - length s.unread) n) (λ y. absurd (grind arith)) (λ x. rw x refl)

pub receipt-refused : (config : Config) (h : List Arrival) (s : SessionValue) (n : ℕ)
    → false ≡ not (nat_lt (1024 - length s.unread) n) → Err NoRoom ≡ receipt n (Some (client_in config h s))
receipt-refused config h s n e = both (nat_lt (1024 - length s.unread) n) (λ y. rw y refl) (λ x. absurd (grind arith))

pub ruleset receive_lemmas = (receipt-taken, receipt-refused, keeps-passed)
