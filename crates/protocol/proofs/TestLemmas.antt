-- The tests on a record's bytes decide what they say.
use Rattle.std.proofs.Common.{length, true≢false, ◌≡◌, ℕ, zero, suc, ◌<◌, ◌≤◌, Bool, false, nat_le, List, [], ◌∷◌, ◌++◌}
use Rattle.std.proofs.Common.{find, Some, None, leb-true, le-leb, refl, sym, ap, subst, arith}
use Rattle.std.specs.Prelude.{All, Any}
use Rattle.std.specs.List.{list_all}
use Rattle.std.specs.Bool.{Decides}
use Rattle.std.proofs.lemmas.Bool.Decides.{Decides-by_and, not_from_Decides, nat_tests}
use Rattle.std.proofs.lemmas.List.Elements.{All-nil, All-cons, All-head, All-tail}
use Rattle.protocol.specs.declared.record.ByteOrder.{ByteOrder}
use Rattle.protocol.specs.Record.{is_sequence_byte, is_quality, has_date, has_time, fits}
use Rattle.protocol.specs.Reading.{Not, IsSequenceByte, IsQuality, HasDate, IsLate, Fits, IsFirst}
use Rattle.protocol.proofs.FoundLemmas.{both}

pub decides-le : (a b : ℕ) → Decides (nat_le a b) (a ≤ b)
decides-le a b = (leb-true a b, le-leb a b)

pub decides-sequence_byte : (b : ℕ) → Decides (is_sequence_byte b) (IsSequenceByte b)
decides-sequence_byte b = (λ e. grind (arith, nat_tests), λ h. grind (arith, nat_tests))

pub decides-quality : (b : ℕ) → Decides (is_quality b) (IsQuality b)
decides-quality b = (λ e. grind (arith, nat_tests), λ h. grind (arith, nat_tests))

pub decides-date : (o : ByteOrder) (r : List ℕ) → Decides (has_date o r) (HasDate o r)
decides-date o r = (λ e. grind (arith, nat_tests), λ h. grind (arith, nat_tests))

-- a time that isn't late
pub decides-time : (o : ByteOrder) (r : List ℕ) → Decides (has_time o r) (Not (IsLate o r))
decides-time o r = (λ e h. grind (arith, nat_tests), λ h. grind (arith, nat_tests))

pub late : (o : ByteOrder) (r : List ℕ) → has_time o r ≡ false → IsLate o r
late o r e = grind (arith, nat_tests)

pub decides-fits : (o : ByteOrder) (r : List ℕ) (at : ℕ) → Decides (fits o r at) (Fits o r at)
decides-fits o r at = (
  λ e. (grind (arith, nat_tests), λ is_1000. grind (arith, nat_tests)),
  λ h. grind (arith, nat_tests),
)

-- all of a list
pub decides-all : {A : Type 0} (test : A → Bool) (P : A → Type 0) → ((x : A) → Decides (test x) (P x)) → (xs : List A)
    → Decides (list_all test xs) (All P xs)
decides-all test P each xs = Decides-by_and test P (list_all test) each refl (λ _ _. refl) xs

any_later : {A : Type 0} (P : A → Type 0) (x : A) (xs : List A) → Any P xs → Any P (x ∷ xs)
any_later P x xs any = (suc any.0, any.1, let within : any.0 < length xs = any.2 in omega arith, any.3, any.4)

-- where not all pass, some one doesn't
pub some_fails : {A : Type 0} (test : A → Bool) (P : A → Type 0) → ((x : A) → Decides (test x) (P x)) → (xs : List A)
    → list_all test xs ≡ false → Any (λ x. Not (P x)) xs
some_fails test P each [] e = absurd (true≢false e)
some_fails test P each (x ∷ xs) e =
    both (test x)
    (λ y. any_later (λ x. Not (P x)) x xs (some_fails test P each xs (rw y at e)))
    (λ n. (zero, x, omega arith, refl, not_from_Decides (test x) (each x) n))

pub not_all : {A : Type 0} (P : A → Type 0) (xs : List A) → Any (λ x. Not (P x)) xs → Not (All P xs)
not_all P xs any all = any.4 (subst P any.3 (all any.0 any.1 any.2))

-- what is found first
module _ (test : ℕ → Bool) (P : ℕ → Type 0) (each : (n : ℕ) → Decides (test n) (P n)) where
  first_later : (x : ℕ) (xs : List ℕ) (at : ℕ) → test x ≡ false → IsFirst P xs at → IsFirst P (x ∷ xs) at
  first_later x xs at n f = record {
    before = x ∷ f.before;
    after = f.after;
    whole = ap (λ l. x ∷ l) f.whole;
    here = f.here;
    not_before = All-cons (λ other. Not (P other)) x f.before (not_from_Decides (test x) (each x) n) f.not_before;
  }

  pub found_first : (xs : List ℕ) (at : ℕ) → find test xs ≡ Some at → IsFirst P xs at
  found_first [] at e = absurd cc
  found_first (x ∷ xs) at e =
      both (test x)
      (λ y. let same : Some x ≡ Some at = rw y at e in
      let here : x ≡ at = cc in
      record {
        before = [];
        after = xs;
        whole = ap (λ n. n ∷ xs) (sym here);
        here = subst P here ((each x).0 y);
        not_before = All-nil (λ other. Not (P other));
      })
      (λ n. first_later x xs at n (found_first xs at (rw n at e)))

  pub found_none : (xs : List ℕ) → find test xs ≡ None → All (λ n. Not (P n)) xs
  found_none [] e = All-nil (λ n. Not (P n))
  found_none (x ∷ xs) e =
      both (test x)
      (λ y. absurd (let some : Some x ≡ None = rw y at e in cc))
      (λ n. All-cons (λ n. Not (P n)) x xs (not_from_Decides (test x) (each x) n) (found_none xs (rw n at e)))

  test_false : (x : ℕ) → Not (P x) → test x ≡ false
  test_false x fails = both (test x) (λ y. absurd (fails ((each x).0 y))) (λ n. n)

  find_behind : (before after : List ℕ) (at : ℕ) → P at → All (λ n. Not (P n)) before
      → find test (before ++ at ∷ after) ≡ Some at
  find_behind [] after at here none = rw ((each at).1 here)
  find_behind (x ∷ before) after at here none =
      rw (test_false x (All-head (λ n. Not (P n)) x before none))
      (find_behind before after at here (All-tail (λ n. Not (P n)) x before none))

  pub finds_first : (xs : List ℕ) (at : ℕ) → IsFirst P xs at → find test xs ≡ Some at
  finds_first xs at f = subst (λ l. find test l ≡ Some at) f.whole (find_behind f.before f.after at f.here f.not_before)

  pub finds_none : (xs : List ℕ) → All (λ n. Not (P n)) xs → find test xs ≡ None
  finds_none [] none = refl
  finds_none (x ∷ xs) none = rw (test_false x (All-head (λ n. Not (P n)) x xs none))
      (finds_none xs (All-tail (λ n. Not (P n)) x xs none))
