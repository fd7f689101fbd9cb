-- Where requests begin, and sessions that differ in cursors alone.
use Rattle.std.proofs.Common.{◌≡◌, ℕ, ◌<◌, ◌≤◌, zero, suc, true, false, nat_le, List, [], ◌∷◌, map, filter_map, All}
use Rattle.std.proofs.Common.{Option, Some, None, option_map, slice_get, unwrap_or, refl, sym, ap, subst, ◌∙◌, arith}
use Rattle.std.proofs.lemmas.Bool.Decides.{nat_tests}
use Rattle.protocol.specs.Catalog.{Config, View}
use Rattle.protocol.specs.History.{Arrival}
use Rattle.protocol.specs.Session.Negotiated.{Multi as NegotiatedMulti}
use Rattle.protocol.specs.Client.{Client}
use Rattle.protocol.proofs.FoundLemmas.{both}
use Rattle.station_ring.specs.declared.held.Held.{Held}
use Rattle.station_ring.specs.Rings.{RingValue, held_at}
use Rattle.station_ring.proofs.GrowthLemmas.{held_at-low}
use Rattle.station_ring.specs.HeldRecords.{RingsValue, IsBehind, IsBefore}
use Rattle.sl_lines.specs.declared.actions.Action.{Action}
use Rattle.sl_lines.specs.declared.actions.Action.TheVariants.{Data, Fetch, Time}
use Rattle.session_state.specs.NamedValues.{Choice, ahead_of}
use Rattle.session_state.specs.declared.choices.Cursor.{Cursor}
use Rattle.session_state.specs.NamedValues.{ModeValue}
use Rattle.session_state.specs.NamedValues.ModeValue.{Uni, Multi}
use Rattle.session_state.specs.declared.session.State.{State}
use Rattle.session_state.specs.declared.session.State.TheVariants.{Negotiating, Listing, Starting, Transfer, Ending}
use Rattle.session_state.specs.Choices.{all_at_start, at_start, choices_in, chosen_of, negotiated_in, request_in}
use Rattle.session_state.specs.Sessions.{SessionValue, but_for_cursors, client_in, session_view, state_in}
use Rattle.transfer.specs.Wanting.{wants_held}
use Rattle.transfer.specs.Cursors.{ArePassed, BeginsIn, HasPassed, HasSeen, IsAtBegin, OfAll, StartsIn, begin_place}
use Rattle.transfer.specs.Cursors.{is_after_end}
use Rattle.transfer.proofs.CursorLemmas.{none-next}
use Rattle.transfer.proofs.RestLemmas.{same-ring}

-- ---- where requests begin

pub behind-there : (arrivals : ℕ) (rings : List RingValue) (place : ℕ) (r : RingValue) → All (IsBehind arrivals) rings
    → slice_get rings place ≡ Some r → IsBehind arrivals r
behind-there arrivals [] place r all e = absurd cc
behind-there arrivals (y ∷ rings) zero r all e =
    subst (λ o. IsBehind arrivals (unwrap_or o r)) e (all 0 y (omega arith))
behind-there arrivals (y ∷ rings) (suc place) r all e =
    behind-there arrivals rings place r (λ j d low. all (suc j) d (omega arith)) e

pub begins-moved : (rings : RingsValue) (c : Choice) (k : Cursor) → BeginsIn rings c
    → BeginsIn rings (record c { cursor = k })
begins-moved rings c k begins = record { before = begins.before }

pub starts-nothing : (rings : RingsValue) (c : Choice) → c.action ≡ None → ahead_of c.cursor ≡ None → StartsIn rings c
starts-nothing rings c none quiet = record {
  starts = λ x action at asked. absurd (let t : None ≡ Some action = sym none ∙ asked in cc);
  quiet = λ e. quiet;
}

pub starts-nowhere : (rings : RingsValue) (c : Choice) → slice_get rings.rings c.station ≡ None
    → ahead_of c.cursor ≡ None → StartsIn rings c
starts-nowhere rings c none quiet = record {
  starts = λ x action at asked. absurd (let t : None ≡ Some x = sym none ∙ at in cc);
  quiet = λ e. quiet;
}

pub starts-ring : (rings : RingsValue) (c : Choice) (r : RingValue) (a : Action)
    → slice_get rings.rings c.station ≡ Some r → c.action ≡ Some a → IsAtBegin r a c.cursor → StartsIn rings c
starts-ring rings c r a there asks begins = record {
  starts = λ x action at asked.
      let action_is : a ≡ action = (let t : Some a ≡ Some action = sym asks ∙ asked in cc) in
      subst (λ (y : RingValue). IsAtBegin y action c.cursor) (same-ring r x (slice_get rings.rings c.station) there at)
      (subst (λ z. IsAtBegin r z c.cursor) action_is begins);
  quiet = λ none. absurd (let t : None ≡ Some a = sym none ∙ asks in cc);
}

-- What came before the first that is wanted is not wanted.
too-early : (c : Choice) (next : ℕ) (x : Held) → x.stamp < c.first → wants_held c next x ≡ false
too-early c next x early =
    let test : nat_le c.first x.stamp ≡ false = grind (arith, nat_tests) in
    both (nat_le next x.stamp) (λ y. rw (y, test) refl) (λ n. rw n refl)

-- Nothing before the place at which a request begins starts after the end of TIME, since TIME begins at the oldest.
none-after-end : (r : RingValue) (a : Action) (place : ℕ) (x : Held) → place < begin_place r a
    → held_at r place ≡ Some x → is_after_end (Some a) x ≡ false
none-after-end r (Data number begin) place x low there = refl
none-after-end r (Fetch number begin) place x low there = refl
none-after-end r (Time begin None) place x low there = refl
none-after-end r (Time begin (Some last)) place x low there =
    absurd (let first = (held_at-low r place x there).0 in omega arith)

begin-passed : (r : RingValue) (a : Action) (next : ℕ) (c : Choice) → c.action ≡ Some a
    → IsBefore r (begin_place r a) c.first → IsAtBegin r a c.cursor → HasPassed r next c c.cursor
begin-passed r a next c asked before begins = record {
  within = begins.within;
  unwanted = λ place x low there. too-early c next x (before.stamps place x (omega (arith, begins.place)) there);
  told = λ place x low there after. absurd (
      let t : true ≡ false = sym after ∙ ap (λ o. is_after_end o x) asked
      ∙ none-after-end r a place x (omega (arith, begins.place)) there in cc);
  before = omega (arith, begins.unended);
  after = λ place x e there. absurd (omega (arith, begins.unended, e));
}

-- No record was looked at yet.
begin-seen : (r : RingValue) (a : Action) (next : ℕ) (c : Choice) → c.action ≡ Some a
    → IsBefore r (begin_place r a) c.first → IsAtBegin r a c.cursor → HasSeen r next c c.cursor
begin-seen r a next c asked before begins = record {
  passed = begin-passed r a next c asked before begins;
  seen = omega (arith, begins.unseen);
  fresh = λ e.
      let past : r.pushes ≤ c.cursor.ring_place = omega (arith, begins.unseen, e) in
      let none : held_at r c.cursor.ring_place ≡ None = none-next r c.cursor.ring_place begins.holding past in
      record {
        low = omega (arith, begins.unseen, e);
        wanted = λ x there late. absurd (let t : None ≡ Some x = sym none ∙ there in cc);
        ahead = begins.none ∙ ap (option_map (λ (x : Held). x.stamp)) (sym none);
        holding = begins.holding;
      };
}

-- A session whose requests have just begun has passed nothing that it wants.
pub starts-passed : (rings : RingsValue) (s : SessionValue) → s.looked ≡ None
    → OfAll (StartsIn rings) (chosen_of s.mode) → OfAll (BeginsIn rings) (chosen_of s.mode) → ArePassed rings s
unfolding ArePassed
starts-passed rings s unlooked starts begins = record {
  all = λ next state. record {
    passed = λ i c at. record {
      passed = λ r action there asked. begin-seen r action next c asked ((begins i c at).before r action there asked)
          ((starts i c at).starts r action there asked);
      quiet = (starts i c at).quiet;
    };
    looked = record {
      late = λ n e. absurd (let t : None ≡ Some n = sym unlooked ∙ e in cc);
      seen = λ e. absurd (let t : None ≡ Some rings.arrivals = sym unlooked ∙ e in cc);
      since = λ n e. absurd (let t : None ≡ Some n = sym unlooked ∙ e in cc);
    };
  };
}

-- ---- sessions that differ in cursors alone

choices-bare : (config : Config) (cs : List Choice) → choices_in config (map at_start cs) ≡ choices_in config cs
choices-bare config [] = refl
choices-bare config (c ∷ cs) = rw (choices-bare config cs) refl

requests-bare : (config : Config) (cs : List Choice)
    → filter_map (request_in config) (map at_start cs) ≡ filter_map (request_in config) cs
requests-bare config [] = refl
requests-bare config (c ∷ cs) = by c.action (requests-bare config cs)
  where
    by : (o : Option Action) → filter_map (request_in config) (map at_start cs) ≡ filter_map (request_in config) cs
        → filter_map (request_in config) (map at_start (record c { action = o } ∷ cs))
        ≡ filter_map (request_in config) (record c { action = o } ∷ cs)
    by None e = e
    by (Some a) e = rw e refl

mode-requests : (config : Config) (mode : ModeValue)
    → filter_map (request_in config) (chosen_of (all_at_start mode)) ≡ filter_map (request_in config) (chosen_of mode)
mode-requests config (Uni ps) = refl
mode-requests config (Multi n) = requests-bare config n.choices

negotiated-bare : (config : Config) (mode : ModeValue)
    → negotiated_in config (all_at_start mode) ≡ negotiated_in config mode
negotiated-bare config (Uni ps) = refl
negotiated-bare config (Multi n) = ap (λ cs. NegotiatedMulti cs n.current) (choices-bare config n.choices)

state-bare : (config : Config) (h : List Arrival) (v : View) (mode : ModeValue) (t : State)
    → state_in config h v (all_at_start mode) t ≡ state_in config h v mode t
state-bare config h v mode Negotiating = rw (negotiated-bare config mode) refl
state-bare config h v mode (Listing made) = rw (negotiated-bare config mode) refl
state-bare config h v mode Starting = rw (negotiated-bare config mode) refl
state-bare config h v mode (Transfer next) = rw (mode-requests config mode) refl
state-bare config h v mode Ending = refl

client-bare : (config : Config) (h : List Arrival) (s : SessionValue)
    → client_in config h (but_for_cursors s) ≡ client_in config h s
client-bare config h s =
    ap
    (λ t. let c : Client = record { state = t; open_line = s.open_line; unread = s.unread; waiting = s.waiting } in c)
    (state-bare config h (session_view config s) s.mode s.state)

pub client-same : (config : Config) (h : List Arrival) (a b : SessionValue) → but_for_cursors a ≡ but_for_cursors b
    → client_in config h a ≡ client_in config h b
client-same config h a b same = sym (client-bare config h a) ∙ ap (client_in config h) same ∙ client-bare config h b

pub requests-same : (config : Config) (a b : SessionValue) → but_for_cursors a ≡ but_for_cursors b
    → filter_map (request_in config) (chosen_of a.mode) ≡ filter_map (request_in config) (chosen_of b.mode)
requests-same config a b same =
    sym (mode-requests config a.mode)
    ∙ ap (λ (s : SessionValue). filter_map (request_in config) (chosen_of s.mode)) same
    ∙ mode-requests config b.mode
