-- The first of what so many named stations are to send, by what their cursors tell.
use Rattle.std.proofs.Common.{◌≡◌, ℕ, ◌+◌, ◌<◌, ◌≤◌, List, [], ◌∷◌, length, get_or, slice_get, filter_map, option_map}
use Rattle.std.proofs.Common.{Bool, Option, Some, None, true, false, refl, sym, ap, subst, ◌∙◌, arith}
use Rattle.std.specs.Prelude.{◌==◌, find, is_some}
use Rattle.std.proofs.lemmas.Bool.Decides.{nat_tests}
use Rattle.protocol.specs.Catalog.{Config}
use Rattle.protocol.specs.History.{Arrival, next}
use Rattle.protocol.proofs.FoundLemmas.{both}
use Rattle.station_ring.specs.declared.held.Held.{Held}
use Rattle.station_ring.specs.Rings.{RingValue, held_at}
use Rattle.station_ring.specs.HeldRecords.{RingsValue, holdings_of}
use Rattle.station_ring.proofs.HistoryLemmas.{walk_all}
use Rattle.sl_lines.specs.declared.actions.Action.{Action}
use Rattle.session_state.specs.NamedValues.{Choice, ahead_of}
use Rattle.session_state.specs.Choices.{request_in}
use Rattle.session_state.specs.declared.choices.First.{First}
use Rattle.transfer.specs.Choosing.{comes_before}
use Rattle.transfer.specs.Cursors.{OfAll, PassedIn, RestsAt, RestsIn}
use Rattle.transfer.specs.Firsts.{IsAhead, LeadsSoFar, earlier, is_unsent}
use Rattle.transfer.specs.Sleeping.{HasNothing}
use Rattle.transfer.specs.Wanting.{wants_held}
use Rattle.transfer.proofs.PositionLemmas.{next-none}
use Rattle.transfer.proofs.NextLemmas.{after-best, asked-none, asked-some, before-best, first-comes, least-none}
use Rattle.transfer.proofs.NextLemmas.{lesser-found, nothing-asked, nowhere-comes}
use Rattle.transfer.proofs.CursorLemmas.{cursor-end, cursor-late, cursor-none, cursor-some}
use Rattle.transfer.proofs.RestLemmas.{choice-at, choice-within, same-ring}
use Rattle.transfer.proofs.SleepLemmas.{nothing-of-none, nothing-of-nowhere, nothing-of-ring}

-- ---- one request

-- The record that a cursor tells of, where its request rests.
pub record AheadIn (rings : RingsValue) (q : ℕ) (c : Choice) (stamp : ℕ) : Type 0 where
  pub ring : RingValue
  pub there : slice_get rings.rings c.station ≡ Some ring
  pub rests : RestsAt ring q c c.cursor
  pub item : Held
  pub held : held_at ring c.cursor.ring_place ≡ Some item
  pub is : item.stamp ≡ stamp

pub where-ahead : (rings : RingsValue) (q : ℕ) (c : Choice) (stamp : ℕ) → RestsIn rings q c
    → ahead_of c.cursor ≡ Some stamp → AheadIn rings q c stamp
where-ahead rings q c stamp rests told = by_action c.action refl
  where
    by_item : (r : RingValue) (at : slice_get rings.rings c.station ≡ Some r) (rest : RestsAt r q c c.cursor)
        (o : Option Held) → held_at r c.cursor.ring_place ≡ o → AheadIn rings q c stamp
    by_item r at rest None none = absurd (let t : None ≡ Some stamp = ap (option_map (λ (x : Held). x.stamp)) (sym none)
        ∙ (sym rest.ahead ∙ told) in cc)
    by_item r at rest (Some x) held =
        let same : Some x.stamp ≡ Some stamp = ap (option_map (λ (x : Held). x.stamp)) (sym held)
        ∙ (sym rest.ahead ∙ told) in
        record { ring = r; there = at; rests = rest; item = x; held = held; is = cc }

    by_ring : (a : Action) → c.action ≡ Some a → (o : Option RingValue) → slice_get rings.rings c.station ≡ o
        → AheadIn rings q c stamp
    by_ring a asked None none = absurd (let t : None ≡ Some stamp = sym (rests.nowhere none) ∙ told in cc)
    by_ring a asked (Some r) at = let rest =
        rests.rests r a at asked in by_item r at rest (held_at r c.cursor.ring_place) refl

    by_action : (o : Option Action) → c.action ≡ o → AheadIn rings q c stamp
    by_action None none = absurd (let t : None ≡ Some stamp = sym (rests.quiet none) ∙ told in cc)
    by_action (Some a) asked = by_ring a asked (slice_get rings.rings c.station) refl

-- The record at the cursor is the first that the request wants.
ahead-is : (r : RingValue) (q : ℕ) (c : Choice) → RestsAt r q c c.cursor
    → ahead_of c.cursor ≡ option_map (λ x. x.stamp) (find (wants_held c q) r.held)
ahead-is r q c rest = rest.ahead ∙ by (held_at r c.cursor.ring_place) refl
  where
    by : (o : Option Held) → held_at r c.cursor.ring_place ≡ o
        → option_map (λ x. x.stamp) o ≡ option_map (λ x. x.stamp) (find (wants_held c q) r.held)
    by None none = cursor-none r q c c.cursor rest.holding rest (sym none)
    by (Some x) held = cursor-some r q c c.cursor x rest (sym held)

comes : (rings : RingsValue) (c : Choice) (q : ℕ) → RestsIn rings q c → (config : Config) (h : List Arrival)
    → rings ≡ holdings_of config h → ahead_of c.cursor ≡ next h (filter_map (request_in config) (c ∷ [])) q
comes rings c q rests config h holds = by (is_some c.action) refl
  where
    there : is_some c.action ≡ true → (a : Action) → c.action ≡ Some a → (o : Option RingValue)
        → slice_get rings.rings c.station ≡ o → ahead_of c.cursor ≡ next h (filter_map (request_in config) (c ∷ [])) q
    there some a asked None none = rests.nowhere none ∙ nowhere-comes walk_all config c h rings q some holds none
    there some a asked (Some r) at = ahead-is r q c (rests.rests r a at asked)
        ∙ first-comes walk_all config c h rings r q some holds at

    by : (b : Bool) → is_some c.action ≡ b → ahead_of c.cursor ≡ next h (filter_map (request_in config) (c ∷ [])) q
    by false none = rests.quiet (asked-none c.action none) ∙ nothing-asked config c h q none
    by true some = let asked = asked-some c.action some in there some asked.0 asked.1
        (slice_get rings.rings c.station) refl

late : (rings : RingsValue) (c : Choice) (q stamp : ℕ) → RestsIn rings q c → ahead_of c.cursor ≡ Some stamp → q ≤ stamp
late rings c q stamp rests told =
    let w = where-ahead rings q c stamp rests told in
    subst (λ n. q ≤ n) w.is (cursor-late w.ring q c c.cursor w.item w.rests (sym w.held))

nothing : (rings : RingsValue) (c : Choice) (q : ℕ) → RestsIn rings q c → ahead_of c.cursor ≡ None
    → HasNothing rings q c
nothing rings c q rests none = by_action c.action refl
  where
    by_item : (r : RingValue) → slice_get rings.rings c.station ≡ Some r → RestsAt r q c c.cursor → (o : Option Held)
        → held_at r c.cursor.ring_place ≡ o → HasNothing rings q c
    by_item r at rest None empty =
        nothing-of-ring rings q c r at (cursor-end r q c c.cursor rest.holding rest (sym empty))
        (cursor-none r q c c.cursor rest.holding rest (sym empty))
    by_item r at rest (Some x) held =
        absurd (let t : Some x.stamp ≡ None = ap (option_map (λ (x : Held). x.stamp)) (sym held)
        ∙ (sym rest.ahead ∙ none) in cc)

    by_ring : (a : Action) → c.action ≡ Some a → (o : Option RingValue) → slice_get rings.rings c.station ≡ o
        → HasNothing rings q c
    by_ring a asked None nowhere = nothing-of-nowhere rings q c nowhere
    by_ring a asked (Some r) at = by_item r at (rests.rests r a at asked) (held_at r c.cursor.ring_place) refl

    by_action : (o : Option Action) → c.action ≡ o → HasNothing rings q c
    by_action None unasked = nothing-of-none rings q c unasked
    by_action (Some a) asked = by_ring a asked (slice_get rings.rings c.station) refl

-- ---- so many requests

pub leads-none : (rings : RingsValue) (choices : List Choice) → LeadsSoFar rings choices 0 None
leads-none rings choices = record {
  position = λ q rests config h holds. sym (next-none h q);
  there = tt;
  late = λ q rests. tt;
  reached = λ q rests none j c low at. absurd (omega arith);
}

-- One request more has nothing ahead, a record that came first, or one that came later.
leads-same : (rings : RingsValue) (choices : List Choice) (i : ℕ) (c : Choice) (best : Option First)
    → i < length choices → c ≡ get_or choices i c → ahead_of c.cursor ≡ None → LeadsSoFar rings choices i best
    → LeadsSoFar rings choices (i + 1) best
leads-same rings choices i c best low is none so_far =
    let at : slice_get choices i ≡ Some c = choice-at choices i c low is in
    record {
      position = λ q rests config h holds.
          least-none (option_map (λ x. x.stamp) best)
          ∙ lesser-found config h choices i c q (option_map (λ x. x.stamp) best) None low is
          (so_far.position q rests config h holds) (sym none ∙ comes rings c q (rests i c at) config h holds);
      there = so_far.there;
      late = so_far.late;
      reached = λ q rests nobody j x below there. both (j == i)
          (λ y. let here : j ≡ i = grind (arith, nat_tests) in
          let same : c ≡ x = (let t : Some c ≡ Some x = sym at ∙ ap (slice_get choices) (sym here) ∙ there in cc) in
          subst (HasNothing rings q) same (nothing rings c q (rests i c at) none))
          (λ n. so_far.reached q rests nobody j x (grind (arith, nat_tests)) there);
    }

leads-first : (rings : RingsValue) (choices : List Choice) (i : ℕ) (c : Choice) (best : Option First) (stamp : ℕ)
    → i < length choices → c ≡ get_or choices i c → ahead_of c.cursor ≡ Some stamp
    → comes_before (option_map (λ x. x.stamp) best) stamp ≡ true → LeadsSoFar rings choices i best
    → LeadsSoFar rings choices (i + 1) (Some (record { index = i; stamp = stamp }))
leads-first rings choices i c best stamp low is told first so_far =
    let at : slice_get choices i ≡ Some c = choice-at choices i c low is in
    record {
      position = λ q rests config h holds.
          before-best (option_map (λ x. x.stamp) best) stamp first
          ∙ lesser-found config h choices i c q (option_map (λ x. x.stamp) best) (Some stamp) low is
          (so_far.position q rests config h holds) (sym told ∙ comes rings c q (rests i c at) config h holds);
      there = record { choice = c; at = at; ahead = told };
      late = λ q rests. late rings c q stamp (rests i c at) told;
      reached = λ q rests nobody j x below there. absurd cc;
    }

leads-second : (rings : RingsValue) (choices : List Choice) (i : ℕ) (c : Choice) (best : Option First) (stamp : ℕ)
    → i < length choices → c ≡ get_or choices i c → ahead_of c.cursor ≡ Some stamp
    → comes_before (option_map (λ x. x.stamp) best) stamp ≡ false → LeadsSoFar rings choices i best
    → LeadsSoFar rings choices (i + 1) best
leads-second rings choices i c best stamp low is told second so_far =
    let at : slice_get choices i ≡ Some c = choice-at choices i c low is in
    record {
      position = λ q rests config h holds.
          after-best (option_map (λ x. x.stamp) best) stamp second
          ∙ lesser-found config h choices i c q (option_map (λ x. x.stamp) best) (Some stamp) low is
          (so_far.position q rests config h holds) (sym told ∙ comes rings c q (rests i c at) config h holds);
      there = so_far.there;
      late = so_far.late;
      reached = λ q rests nobody j x below there. absurd (
          let t : true ≡ false = ap (λ o. comes_before (option_map (λ (y : First). y.stamp) o) stamp) (sym nobody)
          ∙ second in cc);
    }

-- One request more.
pub leads-more : (rings : RingsValue) (choices : List Choice) (i : ℕ) (c : Choice) (best : Option First)
    → i < length choices → c ≡ get_or choices i c → LeadsSoFar rings choices i best
    → LeadsSoFar rings choices (i + 1) (earlier best i (ahead_of c.cursor))
leads-more rings choices i c best low is so_far = by (ahead_of c.cursor) refl
  where
    by : (o : Option ℕ) → ahead_of c.cursor ≡ o → LeadsSoFar rings choices (i + 1) (earlier best i o)
    by None none = leads-same rings choices i c best low is none so_far
    by (Some stamp) told = both (comes_before (option_map (λ x. x.stamp) best) stamp)
        (λ y. rw y (leads-first rings choices i c best stamp low is told y so_far))
        (λ n. rw n (leads-second rings choices i c best stamp low is told n so_far))

pub ahead-within : (choices : List Choice) (i stamp : ℕ) → IsAhead choices i stamp → i < length choices
ahead-within choices i stamp ahead = choice-within choices i ahead.choice (length choices) (omega arith) ahead.at

-- The record that a cursor tells of, of the choice that a walk finds at the index.
pub told-ahead : (rings : RingsValue) (choices : List Choice) (i stamp q : ℕ) (c : Choice)
    → OfAll (RestsIn rings q) choices → IsAhead choices i stamp → c ≡ get_or choices i c → AheadIn rings q c stamp
told-ahead rings choices i stamp q c rests ahead is =
    let here : slice_get choices i ≡ Some c = choice-at choices i c (ahead-within choices i stamp ahead) is in
    let same : ahead.choice ≡ c = (let t : Some ahead.choice ≡ Some c = sym ahead.at ∙ here in cc) in
    where-ahead rings q c stamp (rests i c here)
    (subst (λ (x : Choice). ahead_of x.cursor ≡ Some stamp) same ahead.ahead)

-- What is found in the ring is the record that the cursor tells of.
pub ahead-ring : (rings : RingsValue) (q : ℕ) (c : Choice) (stamp : ℕ) (r : RingValue) → AheadIn rings q c stamp
    → Some r ≡ slice_get rings.rings c.station
    → (x : Held) × (held_at r c.cursor.ring_place ≡ Some x) × (x.stamp ≡ stamp)
ahead-ring rings q c stamp r ahead there =
    let same : ahead.ring ≡ r = (let t : Some ahead.ring ≡ Some r = sym ahead.there ∙ sym there in cc) in
    (ahead.item, ap (λ (y : RingValue). held_at y c.cursor.ring_place) (sym same) ∙ ahead.held, ahead.is)

-- ---- a request that has nothing new in its ring

unsent-late : (next : ℕ) (ahead : Option ℕ) (stamp : ℕ) → is_unsent next ahead ≡ true → ahead ≡ Some stamp
    → next ≤ stamp
unsent-late next None stamp e told = absurd cc
unsent-late next (Some a) stamp e told =
    let same : a ≡ stamp = cc in
    let le : next ≤ a = grind (arith, nat_tests) in
    omega arith

pub fresh-rests : (rings : RingsValue) (next : ℕ) (c : Choice) (r : RingValue)
    → slice_get rings.rings c.station ≡ Some r → c.cursor.seen ≡ r.pushes
    → is_unsent next (ahead_of c.cursor) ≡ true → PassedIn rings next c
    → RestsIn rings next c
fresh-rests rings next c r there same unsent passed = record {
  rests = λ x action at asked.
      let ring : r ≡ x = same-ring r x (slice_get rings.rings c.station) there at in
      let has = passed.passed x action at asked in
      let seen : c.cursor.seen ≡ x.pushes = same ∙ ap (λ (y : RingValue). y.pushes) ring in
      let fresh = has.fresh seen in
      record {
        passed = has.passed;
        low = fresh.low;
        wanted =
            λ y held. fresh.wanted y held
            (unsent-late next (ahead_of c.cursor) y.stamp unsent
            (fresh.ahead ∙ ap (option_map (λ (z : Held). z.stamp)) held));
        seen = seen;
        ahead = fresh.ahead;
        holding = fresh.holding;
      };
  quiet = passed.quiet;
  nowhere = λ none. absurd (let t : None ≡ Some r = sym none ∙ there in cc);
}
