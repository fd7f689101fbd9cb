-- A text is known by its number.
use Rattle.std.proofs.Common.{◌≡◌, ℕ, zero, suc, ◌^◌, ◌<◌, ◌≤◌, ◌==◌, Bool, true, false, List, length, get_or, refl}
use Rattle.std.proofs.Common.{sym, ap, ◌∙◌, arith, eq-eqb, eqb-true}
use Rattle.std.specs.Str.{bytes_eq}
use Rattle.std.proofs.lemmas.Bool.{false≢true}
use Rattle.std.proofs.lemmas.Grind.{same_number_lists}
use Rattle.std.proofs.lemmas.Nat.{be_bytes_8}
use Rattle.std.proofs.lemmas.Slice.Eq.{bytes_eq-Decides}
use Rattle.text_parts.specs.Spelling.{digits, spelled, AreBytes}

-- the digits of a text are bytes
digits_are_bytes : (t : List ℕ) → length t ≤ 7 → AreBytes t → (i : ℕ) → get_or (digits t) i 0 < 256
digits_are_bytes t few are zero = are 0
digits_are_bytes t few are (suc zero) = are 1
digits_are_bytes t few are (suc (suc zero)) = are 2
digits_are_bytes t few are (suc (suc (suc zero))) = are 3
digits_are_bytes t few are (suc (suc (suc (suc zero)))) = are 4
digits_are_bytes t few are (suc (suc (suc (suc (suc zero))))) = are 5
digits_are_bytes t few are (suc (suc (suc (suc (suc (suc zero)))))) = are 6
digits_are_bytes t few are (suc (suc (suc (suc (suc (suc (suc zero))))))) = omega (arith, few)
digits_are_bytes t few are (suc (suc (suc (suc (suc (suc (suc (suc i)))))))) = omega arith

-- A text is known by its digits.
same_digits : (a b : List ℕ) → length a ≤ 7 → digits a ≡ digits b → a ≡ b
same_digits a b few same =
    same_number_lists a b (ap (λ ds. get_or ds 7 0) same) (λ k h. each k (omega (arith, few, h)))
  where
    each : (k : ℕ) → k < 7 → get_or a k 0 ≡ get_or b k 0
    each zero h = ap (λ ds. get_or ds 0 0) same
    each (suc zero) h = ap (λ ds. get_or ds 1 0) same
    each (suc (suc zero)) h = ap (λ ds. get_or ds 2 0) same
    each (suc (suc (suc zero))) h = ap (λ ds. get_or ds 3 0) same
    each (suc (suc (suc (suc zero)))) h = ap (λ ds. get_or ds 4 0) same
    each (suc (suc (suc (suc (suc zero))))) h = ap (λ ds. get_or ds 5 0) same
    each (suc (suc (suc (suc (suc (suc zero)))))) h = ap (λ ds. get_or ds 6 0) same
    each (suc (suc (suc (suc (suc (suc (suc k))))))) h = absurd (omega (arith, h))

-- A text is known by the number that it is spelled as.
same_spelled : (a b : List ℕ) → length a ≤ 7 → length b ≤ 7 → AreBytes a → AreBytes b → spelled a ≡ spelled b → a ≡ b
same_spelled a b a_few b_few a_are b_are same =
    same_digits a b a_few
    (sym (be_bytes_8 (digits a) (spelled a) refl (digits_are_bytes a a_few a_are) refl)
    ∙ be_bytes_8 (digits b) (spelled a) refl (digits_are_bytes b b_few b_are) same)

-- Numbers are equal exactly where the texts are that they spell.
pub equal_spelled : (a b : List ℕ) → length a ≤ 7 → length b ≤ 7 → AreBytes a → AreBytes b
    → (spelled a == spelled b) ≡ bytes_eq a b
equal_spelled a b a_few b_few a_are b_are = by (bytes_eq a b) refl
  where
    by : (r : Bool) → bytes_eq a b ≡ r → (spelled a == spelled b) ≡ r
    by true is = eq-eqb (spelled a) (spelled b) (ap spelled ((bytes_eq-Decides a b).0 is))
    by false is = other (spelled a == spelled b) refl
      where
        other : (r : Bool) → (spelled a == spelled b) ≡ r → r ≡ false
        other false e = refl
        other true e = absurd (false≢true (sym is ∙ (bytes_eq-Decides a b).1
            (same_spelled a b a_few b_few a_are b_are (eqb-true (spelled a) (spelled b) e))))

-- a text's number takes eight bytes
pub spelled_small : (t : List ℕ) → length t ≤ 7 → AreBytes t → spelled t < 2 ^ 64
spelled_small t few are =
    let a = are 0 in
    let b = are 1 in
    let c = are 2 in
    let d = are 3 in
    let e = are 4 in
    let f = are 5 in
    let g = are 6 in
    omega (arith, few)
