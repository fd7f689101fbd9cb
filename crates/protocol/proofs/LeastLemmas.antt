-- What is found first in a history is the least position.
use Rattle.std.proofs.Common.{⊎_elim, append-nil, ◌≡◌, ℕ, suc, ◌+◌, ◌≤◌, Bool, true, false, List, [], ◌∷◌, ◌++◌, length}
use Rattle.std.proofs.Common.{Option, Some, None, refl, sym, ap, ap₂, ◌∙◌, arith, subst, append_assoc, length-append}
use Rattle.std.proofs.Common.{true≢false}
use Rattle.std.specs.Prelude.{◌↔◌}
use Rattle.std.proofs.lemmas.Bool.{cases_eq, cases_order}
use Rattle.protocol.specs.History.{Arrival, first_position}
use Rattle.protocol.specs.Reading.{Not}
use Rattle.protocol.specs.Choosing.{HoldsAt, IsLeast}
use Rattle.protocol.proofs.FoundLemmas.{both, Found}

-- The test decides what is true at a position.
abbrev pub DecidesAt : (ℕ → List Arrival → Arrival → Bool) → (ℕ → Arrival → List Arrival → Type 0) → Type 0
DecidesAt test P = (p : ℕ) (a : Arrival) (later : List Arrival)
    → (test p later a ≡ true → P p a later) × (P p a later → test p later a ≡ true)

-- one arrival at a position
pub record IsSameArrival (a a' : Arrival) (later later' : List Arrival) : Type 0 where
  pub arrival : a ≡ a'
  pub rest : later ≡ later'

same_behind : (before before' : List Arrival) (a a' : Arrival) (later later' : List Arrival)
    → length before ≡ length before' → before ++ a ∷ later ≡ before' ++ a' ∷ later' → IsSameArrival a a' later later'
same_behind [] [] a a' later later' size e = record { arrival = cc; rest = cc }
same_behind [] (b ∷ before') a a' later later' size e = absurd (omega arith)
same_behind (b ∷ before) [] a a' later later' size e = absurd (omega arith)
same_behind (b ∷ before) (b' ∷ before') a a' later later' size e =
    same_behind before before' a a' later later' (omega arith)
    (let rest : before ++ a ∷ later ≡ before' ++ a' ∷ later' = cc in rest)

module _ (test : ℕ → List Arrival → Arrival → Bool) (P : ℕ → Arrival → List Arrival → Type 0)
    (decides : DecidesAt test P) (h : List Arrival) where
  abbrev Holds : ℕ → Type 0
  Holds k = HoldsAt (P k) h k

  found_holds : (p : ℕ) → Found test h p → Holds p
  found_holds p f = record {
    arrival = f.arrival;
    later = f.later;
    is_at = record { before = f.before; whole = f.whole; place = f.at };
    is_true = (decides p f.arrival f.later).0 f.says;
  }

  -- nothing is true where the test says no
  not_here : (pre : List Arrival) (a : Arrival) (l : List Arrival) (m : ℕ) → length pre ≡ m → pre ++ a ∷ l ≡ h
      → test m l a ≡ false → Not (Holds m)
  not_here pre a l m size whole e holds =
      let same = same_behind holds.is_at.before pre holds.arrival a holds.later l (holds.is_at.place ∙ sym size)
      (holds.is_at.whole ∙ sym whole) in
      let yes' : test m holds.later holds.arrival ≡ true = (decides m holds.arrival holds.later).1 holds.is_true in
      let yes'' : test m l a ≡ true = ap₂ (test m) (sym same.rest) (sym same.arrival) ∙ yes' in
      true≢false (sym yes'' ∙ e)

  one_longer : (pre : List Arrival) (a : Arrival) (m : ℕ) → length pre ≡ m → length (pre ++ a ∷ []) ≡ m + 1
  one_longer pre a m size = length-append pre (a ∷ []) ∙ ap (λ n. n + 1) size

  not_from : (m k : ℕ) → Not (Holds m) → ((j : ℕ) → m + 1 ≤ j → j ≡ k → Not (Holds j)) → m ≤ k → Not (Holds k)
  not_from m k none later low =
      ⊎_elim (λ same. subst (λ j. Not (Holds j)) same none) (λ apart. later k (omega arith) refl) (cases_eq m k)

  seen_at : (pre : List Arrival) (a : Arrival) (l : List Arrival) (m : ℕ) → length pre ≡ m → pre ++ a ∷ l ≡ h
      → test m l a ≡ true → Holds m
  seen_at pre a l m size whole y =
      record {
        arrival = a;
        later = l;
        is_at = record { before = pre; whole = whole; place = size };
        is_true = (decides m a l).0 y;
      }

  pub least : (pre l : List Arrival) (m p : ℕ) → length pre ≡ m → pre ++ l ≡ h → first_position test m l ≡ Some p
      → IsLeast Holds m p
  least pre [] m p size whole found = absurd cc
  least pre (a ∷ l) m p size whole found =
      both (test m l a)
      (λ y. let some : Some m ≡ Some p = rw y at found in
      let is : m ≡ p = cc in
      record {
        from = omega arith;
        here = subst Holds is (seen_at pre a l m size whole y);
        none_before = λ k low high holds. absurd (omega arith);
      })
      (λ n. let more = least (pre ++ a ∷ []) l (m + 1) p (one_longer pre a m size) (append_assoc pre (a ∷ []) l ∙ whole)
      (rw n at found) in
      let above : m + 1 ≤ p = more.from in
      record {
        from = omega arith;
        here = more.here;
        none_before = λ k low high. not_from m k (not_here pre a l m size whole n)
            (λ j above' same. more.none_before j above' (omega arith)) low;
      })

  past_end : (m k : ℕ) → length h ≡ m → m ≤ k → Not (Holds k)
  past_end m k size low holds =
      let whole : length holds.is_at.before + suc (length holds.later)
      ≡ length h = sym (length-append holds.is_at.before (holds.arrival ∷ holds.later))
      ∙ ap length holds.is_at.whole in
      let place = holds.is_at.place in
      omega arith

  pub none_at_all : (pre l : List Arrival) (m : ℕ) → length pre ≡ m → pre ++ l ≡ h → first_position test m l ≡ None
      → (k : ℕ) → m ≤ k → Not (Holds k)
  none_at_all pre [] m size whole found k low = past_end m k (ap length (sym whole ∙ append-nil pre) ∙ size) low
  none_at_all pre (a ∷ l) m size whole found k low =
      both (test m l a)
      (λ y. absurd (let some : Some m ≡ None = rw y at found in cc))
      (λ n. not_from m k (not_here pre a l m size whole n)
      (λ j above same. none_at_all (pre ++ a ∷ []) l (m + 1) (one_longer pre a m size)
      (append_assoc pre (a ∷ []) l ∙ whole) (rw n at found) j above) low)

  -- ---- and the other way round
  one_least : (q p p' : ℕ) → IsLeast Holds q p → IsLeast Holds q p' → p ≡ p'
  one_least q p p' l l' =
      ⊎_elim (λ same. same)
      (λ apart. ⊎_elim (λ less. absurd (l'.none_before p l.from less l.here))
      (λ more. absurd (l.none_before p' l'.from more l'.here)) apart)
      (cases_order p p')

  found_least : (pre l : List Arrival) (m p : ℕ) (found : Option ℕ) → length pre ≡ m → pre ++ l ≡ h
      → first_position test m l ≡ found → IsLeast Holds m p → found ≡ Some p
  found_least pre l m p None size whole e is = absurd (none_at_all pre l m size whole e p is.from is.here)
  found_least pre l m p (Some p') size whole e is =
      ap {B = Option ℕ} Some (one_least m p' p (least pre l m p' size whole e) is)

  found_none : (pre l : List Arrival) (m : ℕ) (found : Option ℕ) → length pre ≡ m → pre ++ l ≡ h
      → first_position test m l ≡ found → ((k : ℕ) → m ≤ k → Not (Holds k)) → found ≡ None
  found_none pre l m None size whole e none = refl
  found_none pre l m (Some p) size whole e none = let is =
      least pre l m p size whole e in absurd (none p is.from is.here)

  pub least_law : (pre l : List Arrival) (m p : ℕ) → length pre ≡ m → pre ++ l ≡ h
      → (first_position test m l ≡ Some p) ↔ IsLeast Holds m p
  least_law pre l m p size whole =
      (least pre l m p size whole, found_least pre l m p (first_position test m l) size whole refl)

  pub none_law : (pre l : List Arrival) (m : ℕ) → length pre ≡ m → pre ++ l ≡ h
      → (first_position test m l ≡ None) ↔ ((k : ℕ) → m ≤ k → Not (Holds k))
  none_law pre l m size whole = (
    none_at_all pre l m size whole,
    found_none pre l m (first_position test m l) size whole refl,
  )
