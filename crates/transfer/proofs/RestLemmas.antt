-- Where the requests of a session rest.
use Rattle.std.proofs.Common.{◌≡◌, ◌≢◌, ℕ, ◌+◌, ◌<◌, ◌≤◌, zero, suc, List, [], ◌∷◌, length, Option, Some, None}
use Rattle.std.proofs.Common.{slice_get, slice_index_or, unwrap_or, refl, sym, ap, subst, ◌∙◌, arith}
use Rattle.std.specs.Prelude.{◌==◌}
use Rattle.std.proofs.lemmas.Bool.Decides.{nat_tests}
use Rattle.std.proofs.lemmas.Option.{slice_get-get_or}
use Rattle.protocol.proofs.FoundLemmas.{both}
use Rattle.station_ring.specs.Rings.{RingValue}
use Rattle.station_ring.specs.HeldRecords.{RingsValue}
use Rattle.sl_lines.specs.declared.actions.Action.{Action}
use Rattle.session_state.specs.NamedValues.{Choice, ahead_of}
use Rattle.session_state.specs.declared.choices.Cursor.{Cursor}
use Rattle.session_state.specs.Choices.{chosen_of}
use Rattle.session_state.specs.Sessions.{SessionValue, but_for_cursors}
use Rattle.transfer.specs.Cursors.{IsReached, OfAll, RestsAt, RestsIn}

-- ---- one request

pub same-ring : (a b : RingValue) (o : Option RingValue) → o ≡ Some a → o ≡ Some b → a ≡ b
same-ring a b o e f = let t : Some a ≡ Some b = sym e ∙ f in cc

pub rests-ring : (rings : RingsValue) (next : ℕ) (c : Choice) (r : RingValue) (a : Action) → c.action ≡ Some a
    → slice_get rings.rings c.station ≡ Some r → RestsAt r next c c.cursor → RestsIn rings next c
rests-ring rings next c r a asks there rests = record {
  rests = λ x action at asked. subst (λ (y : RingValue). RestsAt y next c c.cursor)
      (same-ring r x (slice_get rings.rings c.station) there at) rests;
  quiet = λ none. absurd (let t : None ≡ Some a = sym none ∙ asks in cc);
  nowhere = λ none. absurd (let t : None ≡ Some r = sym none ∙ there in cc);
}

-- The cursor that a request comes to is kept with it.
pub rests-moved : (r : RingValue) (next : ℕ) (c : Choice) (k : Cursor) → RestsAt r next c k
    → RestsAt r next (record c { cursor = k }) k
rests-moved r next c k rests = record {
  passed = record {
    within = rests.passed.within;
    unwanted = rests.passed.unwanted;
    told = rests.passed.told;
    before = rests.passed.before;
    after = rests.passed.after;
  };
  low = rests.low;
  wanted = rests.wanted;
  seen = rests.seen;
  ahead = rests.ahead;
  holding = rests.holding;
}

pub rests-nothing : (rings : RingsValue) (next : ℕ) (c : Choice) → c.action ≡ None → ahead_of c.cursor ≡ None
    → RestsIn rings next c
rests-nothing rings next c none quiet = record {
  rests = λ x action at asked. absurd (let t : None ≡ Some action = sym none ∙ asked in cc);
  quiet = λ e. quiet;
  nowhere = λ e. quiet;
}

pub rests-nowhere : (rings : RingsValue) (next : ℕ) (c : Choice) → slice_get rings.rings c.station ≡ None
    → ahead_of c.cursor ≡ None → RestsIn rings next c
rests-nowhere rings next c none quiet = record {
  rests = λ x action at asked. absurd (let t : None ≡ Some x = sym none ∙ at in cc);
  quiet = λ e. quiet;
  nowhere = λ e. quiet;
}

pub reached-nothing : (rings : RingsValue) (c : Choice) → c.action ≡ None → IsReached rings c
reached-nothing rings c none =
    record { reached = λ x action at asked. absurd (let t : None ≡ Some action = sym none ∙ asked in cc) }

pub reached-nowhere : (rings : RingsValue) (c : Choice) → slice_get rings.rings c.station ≡ None → IsReached rings c
reached-nowhere rings c none =
    record { reached = λ x action at asked. absurd (let t : None ≡ Some x = sym none ∙ at in cc) }

pub reached-ring : (rings : RingsValue) (c : Choice) (r : RingValue) → slice_get rings.rings c.station ≡ Some r
    → c.cursor.ring_place ≡ r.pushes → IsReached rings c
reached-ring rings c r there end =
    record {
      reached = λ x action at asked. subst (λ (y : RingValue). c.cursor.ring_place ≡ y.pushes)
          (same-ring r x (slice_get rings.rings c.station) there at) end;
    }

-- ---- all requests, one after the other

-- Of so many choices this is true, the others are as they were, and nothing but cursors changed.
pub record Moves (P : Choice → Type 0) (i : ℕ) (now start : SessionValue) : Type 0 where
  pub same : but_for_cursors now ≡ but_for_cursors start
  pub count : length (chosen_of now.mode) ≡ length (chosen_of start.mode)
  pub done : (j : ℕ) (c : Choice) → j < i → slice_get (chosen_of now.mode) j ≡ Some c → P c
  pub rest : (j : ℕ) → i ≤ j → slice_get (chosen_of now.mode) j ≡ slice_get (chosen_of start.mode) j

pub moves-none : (P : Choice → Type 0) (start : SessionValue) → Moves P 0 start start
moves-none P start = record {
  same = refl;
  count = refl;
  done = λ j c low at. absurd (omega arith);
  rest = λ j low. refl;
}

-- What `Session.pass` does.
pub record Passes (i : ℕ) (cursor : Cursor) (a n : SessionValue) : Type 0 where
  pub same : but_for_cursors n ≡ but_for_cursors a
  pub here : (c : Choice) → slice_get (chosen_of a.mode) i ≡ Some c
      → slice_get (chosen_of n.mode) i ≡ Some (record c { cursor = cursor })
  pub others : (j : ℕ) → j ≢ i → slice_get (chosen_of n.mode) j ≡ slice_get (chosen_of a.mode) j
  pub count : length (chosen_of n.mode) ≡ length (chosen_of a.mode)

-- The same of a session whose requests are those of another one, as one that only counts more records as lost.
pub passes-from : (i : ℕ) (cursor : Cursor) (a m n : SessionValue) → but_for_cursors m ≡ but_for_cursors a
    → m.mode ≡ a.mode → Passes i cursor m n → Passes i cursor a n
passes-from i cursor a m n same mode passes = record {
  same = passes.same ∙ same;
  here = λ c at. passes.here c (subst (λ q. slice_get (chosen_of q) i ≡ Some c) (sym mode) at);
  others = λ j apart. passes.others j apart ∙ ap (λ q. slice_get (chosen_of q) j) mode;
  count = passes.count ∙ ap (λ q. length (chosen_of q)) mode;
}

pub moves-on : (P : Choice → Type 0) (i : ℕ) (cursor : Cursor) (a n start : SessionValue) (c : Choice)
    → Passes i cursor a n → slice_get (chosen_of a.mode) i ≡ Some c → P (record c { cursor = cursor })
    → Moves P i a start → Moves P (i + 1) n start
moves-on P i cursor a n start c passes at true_there so_far = record {
  same = passes.same ∙ so_far.same;
  count = passes.count ∙ so_far.count;
  done = λ j x low there. both (j == i)
      (λ y. let here : j ≡ i = grind (arith, nat_tests) in
      let is : Some x ≡ Some (record c { cursor = cursor }) = sym there ∙ ap (slice_get (chosen_of n.mode)) here
      ∙ passes.here c at in
      subst P (ap (λ o. unwrap_or o x) (sym is)) true_there)
      (λ m. let apart : j ≢ i = λ e. absurd (grind (arith, nat_tests)) in
      so_far.done j x (grind (arith, nat_tests)) (sym (passes.others j apart) ∙ there));
  rest = λ j low. passes.others j (λ e. absurd (omega arith)) ∙ so_far.rest j (omega arith);
}

-- One choice more of which it is true as it is.
pub moves-stay : (P : Choice → Type 0) (i : ℕ) (a start : SessionValue) (c : Choice)
    → slice_get (chosen_of a.mode) i ≡ Some c → P c → Moves P i a start → Moves P (i + 1) a start
moves-stay P i a start c at true_there so_far = record {
  same = so_far.same;
  count = so_far.count;
  done = λ j x low there. both (j == i)
      (λ y. let here : j ≡ i = grind (arith, nat_tests) in
      let is : Some x ≡ Some c = sym there ∙ ap (slice_get (chosen_of a.mode)) here ∙ at in
      subst P (ap (λ o. unwrap_or o x) (sym is)) true_there)
      (λ m. so_far.done j x (grind (arith, nat_tests)) there);
  rest = λ j low. so_far.rest j (omega arith);
}

-- Of all choices it is true.
pub moves-all : (P : Choice → Type 0) (i : ℕ) (now start : SessionValue) → length (chosen_of start.mode) ≤ i
    → Moves P i now start → OfAll P (chosen_of now.mode)
moves-all P i now start all moves =
    λ j c at. moves.done j c (let low : j < length (chosen_of now.mode) =
    within (chosen_of now.mode) j c at in omega (arith, moves.count)) at
  where
    within : (cs : List Choice) (k : ℕ) (c : Choice) → slice_get cs k ≡ Some c → k < length cs
    within [] k c e = absurd cc
    within (y ∷ cs) zero c e = omega arith
    within (y ∷ cs) (suc k) c e = let more : k < length cs = within cs k c e in omega arith

-- the choice that a walk finds at an index
pub choice-at : (cs : List Choice) (i : ℕ) (c : Choice) → i < length cs → c ≡ slice_index_or cs i c
    → slice_get cs i ≡ Some c
choice-at cs i c low is = slice_get-get_or cs i c low ∙ ap (λ x. Some x) (sym is)

pub choice-within : (cs : List Choice) (j : ℕ) (c : Choice) (i : ℕ) → length cs ≤ i → slice_get cs j ≡ Some c → j < i
choice-within [] j c i all e = absurd cc
choice-within (y ∷ cs) zero c i all e = omega arith
choice-within (y ∷ cs) (suc j) c zero all e = absurd (omega arith)
choice-within (y ∷ cs) (suc j) c (suc i) all e = let more : j < i =
    choice-within cs j c i (omega arith) e in omega arith
