-- The first of what many requests are to send, found in one walk.
use Rattle.std.proofs.Common.{◌≡◌, ℕ, ◌+◌, ◌<◌, ◌≤◌, zero, suc, add-one, List, [], ◌∷◌, length, take, get_or, slice_get}
use Rattle.std.proofs.Common.{Option, Some, None, unwrap_or, refl, sym, ap, ap₂, subst, ◌∙◌, arith}
use Rattle.std.specs.Prelude.{◌==◌, nat_lt}
use Rattle.std.proofs.lemmas.Bool.Decides.{nat_tests}
use Rattle.protocol.proofs.FoundLemmas.{both}
use Rattle.station_ring.specs.HeldRecords.{RingsValue}
use Rattle.session_state.specs.NamedValues.{Choice, ahead_of}
use Rattle.session_state.specs.Choices.{chosen_of}
use Rattle.session_state.specs.Sessions.{SessionValue}
use Rattle.session_state.specs.declared.choices.First.{First}
use Rattle.transfer.specs.Cursors.{OfAll, PassedIn, RestsIn}
use Rattle.transfer.specs.Firsts.{LeadsSoFar, RestBetween, best_after, best_of, earlier}
use Rattle.transfer.proofs.EntryLemmas.{choice-there, item-is}
use Rattle.transfer.proofs.FirstsLemmas.{leads-more, leads-none}
use Rattle.transfer.proofs.RestLemmas.{Moves}

one-more : (cs : List Choice) (i k : ℕ) (c : Choice) (best : Option First) → i < length cs → c ≡ get_or cs i c
    → best_after best k (take (suc i) cs) ≡ earlier (best_after best k (take i cs)) (k + i) (ahead_of c.cursor)
one-more [] i k c best low is = absurd (omega arith)
one-more (x ∷ cs) zero k c best low is =
    let e : k ≡ k + 0 = omega arith in
    ap₂ (λ n (y : Choice). earlier best n (ahead_of y.cursor)) e (sym is)
one-more (x ∷ cs) (suc i) k c best low is =
    let e : k + 1 + i ≡ k + suc i = omega arith in
    one-more cs i (k + 1) c (earlier best k (ahead_of x.cursor)) (omega arith) is
    ∙ ap (λ n. earlier (best_after (earlier best k (ahead_of x.cursor)) (k + 1) (take i cs)) n (ahead_of c.cursor)) e

pub best-more : (cs : List Choice) (i : ℕ) (c : Choice) → i < length cs → c ≡ get_or cs i c
    → best_of (take (i + 1) cs) ≡ earlier (best_of (take i cs)) i (ahead_of c.cursor)
best-more cs i c low is =
    let e : 0 + i ≡ i = omega arith in
    ap (λ n. best_of (take n cs)) (add-one i)
    ∙ one-more cs i 0 c None low is
    ∙ ap (λ n. earlier (best_of (take i cs)) n (ahead_of c.cursor)) e

best-leads-to : (rings : RingsValue) (cs : List Choice) (i : ℕ) → i ≤ length cs
    → LeadsSoFar rings cs i (best_of (take i cs))
best-leads-to rings cs zero low = leads-none rings cs
best-leads-to rings cs (suc i) low =
    let c = choice-there cs i (omega arith) in
    let is = item-is cs i c.0 c.1 in
    subst (λ n. LeadsSoFar rings cs n (best_of (take n cs))) (add-one i)
    (subst (LeadsSoFar rings cs (i + 1)) (sym (best-more cs i c.0 (omega arith) is))
    (leads-more rings cs i c.0 (best_of (take i cs)) (omega arith) is (best-leads-to rings cs i (omega arith))))

take-whole : (cs : List Choice) → take (length cs) cs ≡ cs
take-whole [] = refl
take-whole (c ∷ cs) = ap (λ xs. c ∷ xs) (take-whole cs)

-- the first of all leads
pub best-leads : (rings : RingsValue) (cs : List Choice) (best : Option First) → best ≡ best_of cs
    → LeadsSoFar rings cs (length cs) best
best-leads rings cs best is =
    subst (LeadsSoFar rings cs (length cs)) (ap best_of (take-whole cs) ∙ sym is)
    (best-leads-to rings cs (length cs) (omega arith))

-- the same of so many that all are
pub best-whole : (cs : List Choice) (i : ℕ) (best : Option First) → length cs ≤ i → best ≡ best_of (take i cs)
    → best ≡ best_of cs
best-whole cs i best all is = is ∙ ap best_of (whole cs i all)
  where
    whole : (xs : List Choice) (n : ℕ) → length xs ≤ n → take n xs ≡ xs
    whole [] zero h = refl
    whole [] (suc n) h = refl
    whole (x ∷ xs) zero h = absurd (omega arith)
    whole (x ∷ xs) (suc n) h = ap (λ ys. x ∷ ys) (whole xs n (omega arith))

-- Lists that are alike before an index are alike up to it.
pub take-alike : (xs bs : List Choice) (i : ℕ) → ((j : ℕ) → j < i → slice_get xs j ≡ slice_get bs j)
    → take i xs ≡ take i bs
take-alike xs bs zero alike = refl
take-alike [] [] (suc i) alike = refl
take-alike [] (b ∷ bs) (suc i) alike = absurd (let t : None ≡ Some b = alike 0 (omega arith) in cc)
take-alike (a ∷ xs) [] (suc i) alike = absurd (let t : Some a ≡ None = alike 0 (omega arith) in cc)
take-alike (a ∷ xs) (b ∷ bs) (suc i) alike =
    ap₂ (λ x ys. x ∷ ys) (ap (λ o. unwrap_or o a) (alike 0 (omega arith)))
    (take-alike xs bs i (λ j h. alike (suc j) (omega arith)))

-- ---- requests that a look passed over

-- What holds of the requests before an index holds of those before a later one, between which all rest.
pub moves-between : (rings : RingsValue) (next from to : ℕ) (now start : SessionValue) → from ≤ to
    → RestBetween rings next from to (chosen_of now.mode)
    → Moves (λ c. OfAll (PassedIn rings next) (chosen_of start.mode) → RestsIn rings next c) from now start
    → Moves (λ c. OfAll (PassedIn rings next) (chosen_of start.mode) → RestsIn rings next c) to now start
moves-between rings next from to now start up rest so_far = record {
  same = so_far.same;
  count = so_far.count;
  done = λ j c low at. both (nat_lt j from)
      (λ y. so_far.done j c (grind (arith, nat_tests)) at)
      (λ n. let late : from ≤ j = grind (arith, nat_tests) in
      λ all. rest j c late low at (all j c (sym (so_far.rest j late) ∙ at)));
  rest = λ j low. so_far.rest j (omega arith);
}

-- One request more was looked at.
pub rest-more : (rings : RingsValue) (next from i : ℕ) (cs : List Choice) (c : Choice) → slice_get cs i ≡ Some c
    → (PassedIn rings next c → RestsIn rings next c) → RestBetween rings next from i cs
    → RestBetween rings next from (i + 1) cs
rest-more rings next from i cs c at fresh so_far = λ j x low high there. both (j == i)
    (λ y. let here : j ≡ i = grind (arith, nat_tests) in
    let same : Some x ≡ Some c = sym there ∙ ap (slice_get cs) here ∙ at in
    subst (λ z. PassedIn rings next z → RestsIn rings next z) (ap (λ o. unwrap_or o x) (sym same)) fresh)
    (λ n. so_far j x low (grind (arith, nat_tests)) there)
