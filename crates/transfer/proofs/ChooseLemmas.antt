-- What an offer in a transfer leads to.
use Rattle.std.proofs.Common.{◌≡◌, ℕ, ◌+◌, ◌≤◌, Bool, true, false, ◌&&◌, if◌then◌else◌, List, [], ◌∷◌, filter_map}
use Rattle.std.proofs.Common.{length, drop, drop-cons, get_or, add-one, suc, ◌<◌, Option, Some, None, codes, refl, sym}
use Rattle.std.proofs.Common.{ap, subst, ◌∙◌}
use Rattle.std.specs.List.{list_all}
use Rattle.protocol.specs.Packet.{packet}
use Rattle.protocol.specs.Catalog.{Config, Station}
use Rattle.protocol.specs.History.{Arrival, Request, next, is_over}
use Rattle.protocol.specs.Client.{Client, chosen, filled_in, is_nothing, offered, packet_of}
use Rattle.protocol.specs.Client.State.{Transfer as ClientTransfer, Ending as ClientEnding}
use Rattle.protocol.proofs.FoundLemmas.{both}
use Rattle.catalog.specs.Places.{station_at, HasDistinctCodes}
use Rattle.station_ring.specs.declared.held.Held.{Held}
use Rattle.station_ring.specs.HeldRecords.{RingsValue, holdings_of, ring_of, IsArrival}
use Rattle.station_ring.specs.Rings.{RingValue, held_at, number_at as ring_number}
use Rattle.sl_lines.specs.declared.actions.Action.{Action}
use Rattle.sl_lines.specs.declared.actions.Action.TheVariants.{Data, Fetch, Time}
use Rattle.session_state.specs.NamedValues.{Choice}
use Rattle.session_state.specs.declared.session.State.TheVariants.{Transfer, Ending}
use Rattle.session_state.specs.Choices.{chosen_of, request_in}
use Rattle.session_state.specs.Sessions.{SessionValue, but_for_cursors, client_in}
use Rattle.transfer.specs.declared.choosing.Chosen.{Chosen}
use Rattle.transfer.specs.declared.choosing.Chosen.TheVariants.{Nothing, Complete}
use Rattle.transfer.specs.Choosing.{answer_of, is_over_of, HoldsThere, IsArrived}
use Rattle.transfer.proofs.PacketLemmas.{arrived-there, packet-next}
use Rattle.transfer.proofs.StartLemmas.{client-same}

-- the requests of a session
abbrev pub requests_of : Config → SessionValue → List Request
requests_of config s = filter_map (request_in config) (chosen_of s.mode)

offered-empty : (h : List Arrival) (c : Client) → is_nothing c.waiting ≡ true → offered h c ≡ filled_in h c c.state
offered-empty h c none = ap (λ b. if b then filled_in h c c.state else c) none

-- An offer in a transfer makes wait what comes next.
pub offered-transfer : (config : Config) (h : List Arrival) (a : SessionValue) (q : ℕ) → a.state ≡ Transfer q
    → a.waiting ≡ [] → offered h (client_in config h a)
    ≡ chosen h (requests_of config a) q (client_in config h a) (next h (requests_of config a) q)
offered-transfer config h a q state none =
    offered-empty h (client_in config h a) (ap is_nothing none)
    ∙ ap (λ t. filled_in h (client_in config h a) (client_in config h (record a { state = t })).state) state

pub leads-to-packet : (config : Config) (h : List Arrival) (a n : SessionValue) (q number p : ℕ) (x : Held)
    → HasDistinctCodes config.entries → a.state ≡ Transfer q → a.waiting ≡ [] → x.stamp ≡ p
    → Some p ≡ next h (requests_of config a) q → IsArrived config h number x
    → n ≡ record a { state = Transfer (p + 1); waiting = packet number x.bytes }
    → client_in config h n ≡ offered h (client_in config h a)
leads-to-packet config h a n q number p x distinct state none stamp is_next arrived made =
    let here : packet_of h (requests_of config a) p ≡ packet number x.bytes =
    subst (λ k. packet_of h (requests_of config a) k ≡ packet number x.bytes) stamp
    (packet-next config h (chosen_of a.mode) q number x distinct arrived
    (sym is_next ∙ ap (λ k. Some k) (sym stamp))) in
    ap (client_in config h) made
    ∙ ap
    (λ w. record {
      state = ClientTransfer (requests_of config a) (p + 1);
      open_line = a.open_line;
      unread = a.unread;
      waiting = w;
    }) (sym here)
    ∙ ap (chosen h (requests_of config a) q (client_in config h a)) is_next
    ∙ sym (offered-transfer config h a q state none)

-- A session of which the record that comes next was found is, with that record's packet waiting, as an offer leads to.
pub packet-offered : ((s : Station) (h : List Arrival) (place : ℕ) (x : Held) → 1 ≤ s.capacity
    → held_at (ring_of s h) place ≡ Some x → IsArrival s h (ring_number (ring_of s h) place) x)
    → (config : Config) (h : List Arrival) (rings : RingsValue) (old mid sent : SessionValue) (q place : ℕ)
    (r : RingValue) (x : Held) → HasDistinctCodes config.entries → rings ≡ holdings_of config h → old.state ≡ Transfer q
    → old.waiting ≡ [] → but_for_cursors mid ≡ but_for_cursors old
    → Some x.stamp ≡ next h (requests_of config mid) q → HoldsThere rings r place x → 1 ≤ r.capacity
    → but_for_cursors sent ≡ but_for_cursors
    (record mid { state = Transfer (x.stamp + 1); waiting = packet (ring_number r place) x.bytes })
    → client_in config h sent ≡ offered h (client_in config h old)
packet-offered law config h rings old mid sent q place r x distinct holds state none same is_next there some made =
    let as_made : SessionValue =
    record mid { state = Transfer (x.stamp + 1); waiting = packet (ring_number r place) x.bytes } in
    client-same config h sent as_made made
    ∙ leads-to-packet config h mid as_made q (ring_number r place) x.stamp x distinct
    (ap (λ (s : SessionValue). s.state) same ∙ state) (ap (λ (s : SessionValue). s.waiting) same ∙ none) refl is_next
    (arrived-there law config h rings there.station place r x holds there.ring_there some there.there) refl
    ∙ ap (offered h) (client-same config h mid old same)

pub leads-to-end : (config : Config) (h : List Arrival) (a n : SessionValue) (q : ℕ) → a.state ≡ Transfer q
    → a.waiting ≡ [] → None ≡ next h (requests_of config a) q → list_all (is_over h) (requests_of config a) ≡ true
    → n ≡ record a { state = Ending; unread = []; waiting = codes "END" }
    → client_in config h n ≡ offered h (client_in config h a)
leads-to-end config h a n q state none is_next over made =
    ap (client_in config h) made
    ∙ ap
    (λ b. if b then record (client_in config h a) {
      state = ClientEnding;
      unread = [];
      waiting = codes "END";
    } else client_in config h a) (sym over)
    ∙ ap (chosen h (requests_of config a) q (client_in config h a)) is_next
    ∙ sym (offered-transfer config h a q state none)

pub leads-nowhere : (config : Config) (h : List Arrival) (a : SessionValue) (q : ℕ) → a.state ≡ Transfer q
    → a.waiting ≡ [] → None ≡ next h (requests_of config a) q → list_all (is_over h) (requests_of config a) ≡ false
    → client_in config h a ≡ offered h (client_in config h a)
leads-nowhere config h a q state none is_next over =
    ap
    (λ b. if b then record (client_in config h a) {
      state = ClientEnding;
      unread = [];
      waiting = codes "END";
    } else client_in config h a) (sym over)
    ∙ ap (chosen h (requests_of config a) q (client_in config h a)) is_next
    ∙ sym (offered-transfer config h a q state none)

-- Where nothing is left to send now the transfer ends, or goes on.
pub leads-on : (config : Config) (h : List Arrival) (a n : SessionValue) (q : ℕ) (answer : Chosen)
    → a.state ≡ Transfer q → a.waiting ≡ [] → None ≡ next h (requests_of config a) q
    → answer ≡ answer_of None (list_all (is_over h) (requests_of config a))
    → (answer ≡ Complete → n ≡ record a { state = Ending; unread = []; waiting = codes "END" })
    → (answer ≡ Nothing → n ≡ a) → client_in config h n ≡ offered h (client_in config h a)
leads-on config h a n q answer state none is_next is ends same =
    both (list_all (is_over h) (requests_of config a))
    (λ y. leads-to-end config h a n q state none is_next y (ends (is ∙ ap (answer_of None) y)))
    (λ x. ap (client_in config h) (same (is ∙ ap (answer_of None) x)) ∙ leads-nowhere config h a q state none is_next x)

-- ---- whether all was sent

-- Of one named station and others.
pub over-cons : (config : Config) (h : List Arrival) (c : Choice) (cs : List Choice)
    → list_all (is_over h) (filter_map (request_in config) (c ∷ cs))
    ≡ (is_over_of h (station_at config.entries c.station) c.action
    && list_all (is_over h) (filter_map (request_in config) cs))
over-cons config h c cs = by c.action
  where
    by : (o : Option Action) → list_all (is_over h) (filter_map (request_in config) (record c { action = o } ∷ cs))
        ≡ (is_over_of h (station_at config.entries c.station) o
        && list_all (is_over h) (filter_map (request_in config) cs))
    by None = refl
    by (Some (Data number begin)) = refl
    by (Some (Fetch number begin)) = refl
    by (Some (Time begin None)) = refl
    by (Some (Time begin (Some last))) = refl

-- the station at a place of the list, and those behind it
pub left-at : (cs : List Choice) (i : ℕ) (c : Choice) → i < length cs → c ≡ get_or cs i c
    → drop i cs ≡ c ∷ drop (i + 1) cs
left-at cs i c low is = drop-cons cs i c low ∙ ap (λ y. y ∷ drop (suc i) cs) (sym is)
    ∙ ap (λ n. c ∷ drop n cs) (sym (add-one i))

pub over-from : (config : Config) (h : List Arrival) (cs : List Choice) (i : ℕ) (c : Choice) (over : Bool)
    → i < length cs → c ≡ get_or cs i c → over ≡ is_over_of h (station_at config.entries c.station) c.action
    → list_all (is_over h) (filter_map (request_in config) (drop i cs))
    ≡ (over && list_all (is_over h) (filter_map (request_in config) (drop (i + 1) cs)))
over-from config h cs i c over low is e =
    ap (λ xs. list_all (is_over h) (filter_map (request_in config) xs)) (left-at cs i c low is)
    ∙ over-cons config h c (drop (i + 1) cs)
    ∙ ap (λ b. b && list_all (is_over h) (filter_map (request_in config) (drop (i + 1) cs))) (sym e)
