-- Six hexadecimal digits and the number that they spell.
use Rattle.std.proofs.Common.{◌≡◌, ℕ, ◌+◌, ◌*◌, ◌/◌, ◌%◌, ◌^◌, ◌<◌, List, [], ◌∷◌, length, Option, Some, None, refl, ap}
use Rattle.std.proofs.Common.{◌∙◌, arith}
use Rattle.std.specs.Prelude.{option_and_then}
use Rattle.std.proofs.lemmas.Bool.Decides.{nat_tests}
use Rattle.std.proofs.Math.Nat.{div-div-eq-div-mul}
use Rattle.protocol.specs.Packet.{hex_digit, hex_number, number_of, digit, digits}
use Rattle.protocol.specs.Command.{uppercase, uppercased}

digit_read : (k : ℕ) → k < 16 → hex_digit (digit k) ≡ Some k
digit_read k low = grind (arith, nat_tests)

-- six digits
hex_number-digits : (a b c d e f : ℕ) → a < 16 → b < 16 → c < 16 → d < 16 → e < 16 → f < 16
    → hex_number 0 (digit a ∷ digit b ∷ digit c ∷ digit d ∷ digit e ∷ digit f ∷ [])
    ≡ Some (16 * (16 * (16 * (16 * (16 * (16 * 0 + a) + b) + c) + d) + e) + f)
hex_number-digits a b c d e f la lb lc ld le lf =
    rw (digit_read a la, digit_read b lb, digit_read c lc, digit_read d ld, digit_read e le, digit_read f lf)

spelled : (n : ℕ) → n < 0x1000000
    → 16 * (16 * (16 * (16 * (16 * (16 * 0 + n / 16 ^ 5 % 16) + n / 16 ^ 4 % 16) + n / 16 ^ 3 % 16) + n / 16 ^ 2 % 16)
    + n / 16 % 16) + n % 16 ≡ n
spelled n low =
    let q2 = div-div-eq-div-mul n 16 16 in
    let q3 = div-div-eq-div-mul n 256 16 in
    let q4 = div-div-eq-div-mul n 4096 16 in
    let q5 = div-div-eq-div-mul n 65536 16 in
    omega arith

below_16 : (n : ℕ) → n % 16 < 16
below_16 n = omega arith

pub number_of-digits : (n : ℕ) → n < 0x1000000 → number_of (digits n) ≡ Some n
number_of-digits n low =
    hex_number-digits (n / 16 ^ 5 % 16) (n / 16 ^ 4 % 16) (n / 16 ^ 3 % 16) (n / 16 ^ 2 % 16) (n / 16 % 16) (n % 16)
    (below_16 _) (below_16 _) (below_16 _) (below_16 _) (below_16 _) (below_16 _)
    ∙ ap Some (spelled n low)

-- ---- the digits of what six digits spell
unwrapped : (f : ℕ → Option ℕ) (o : Option ℕ) (m : ℕ) → option_and_then f o ≡ Some m
    → (k : ℕ) × (o ≡ Some k) × (f k ≡ Some m)
unwrapped f None m e = absurd cc
unwrapped f (Some k) m e = (k, refl, e)

pub first_digit : (n b : ℕ) (bs : List ℕ) (m : ℕ) → hex_number n (b ∷ bs) ≡ Some m
    → (k : ℕ) × (hex_digit b ≡ Some k) × (hex_number (16 * n + k) bs ≡ Some m)
first_digit n b bs m e = unwrapped (λ d. hex_number (16 * n + d) bs) (hex_digit b) m e

digit_low : (b k : ℕ) → hex_digit b ≡ Some k → k < 16
digit_low b k e = grind (arith, nat_tests)

digit_written : (b k : ℕ) → hex_digit b ≡ Some k → digit k ≡ uppercase b
digit_written b k e = grind (arith, nat_tests)

digits_are : (n a b c d e f : ℕ) → n / 16 ^ 5 % 16 ≡ a → n / 16 ^ 4 % 16 ≡ b → n / 16 ^ 3 % 16 ≡ c → n / 16 ^ 2 % 16 ≡ d
    → n / 16 % 16 ≡ e → n % 16 ≡ f → digits n ≡ digit a ∷ digit b ∷ digit c ∷ digit d ∷ digit e ∷ digit f ∷ []
digits_are n a b c d e f e5 e4 e3 e2 e1 e0 = rw (e5, e4, e3, e2, e1, e0)

-- a number by its digits
pub record IsSpelled (n a b c d e f : ℕ) : Type 0 where
  pub digits_is : digits n ≡ digit a ∷ digit b ∷ digit c ∷ digit d ∷ digit e ∷ digit f ∷ []
  pub low : n < 0x1000000

number_is : (n a b c d e f : ℕ) → a < 16 → b < 16 → c < 16 → d < 16 → e < 16 → f < 16
    → 16 * (16 * (16 * (16 * (16 * (16 * 0 + a) + b) + c) + d) + e) + f ≡ n → IsSpelled n a b c d e f
number_is n a b c d e f la lb lc ld le lf is = record {
  digits_is = digits_are n a b c d e f (omega arith) (omega arith) (omega arith) (omega arith) (omega arith)
      (omega arith);
  low = omega arith;
}

-- six digits and their number
pub record IsNumber (ds : List ℕ) (n : ℕ) : Type 0 where
  pub upper : digits n ≡ uppercased ds
  pub low : n < 0x1000000

upper_by : (a b c d e f n ka kb kc kd ke kf : ℕ) → hex_digit a ≡ Some ka → hex_digit b ≡ Some kb → hex_digit c ≡ Some kc
    → hex_digit d ≡ Some kd → hex_digit e ≡ Some ke → hex_digit f ≡ Some kf
    → 16 * (16 * (16 * (16 * (16 * (16 * 0 + ka) + kb) + kc) + kd) + ke) + kf ≡ n
    → IsNumber (a ∷ b ∷ c ∷ d ∷ e ∷ f ∷ []) n
upper_by a b c d e f n ka kb kc kd ke kf ea eb ec ed ee ef is =
    let spelled = number_is n ka kb kc kd ke kf (digit_low a ka ea) (digit_low b kb eb) (digit_low c kc ec)
    (digit_low d kd ed) (digit_low e ke ee) (digit_low f kf ef) is in
    record {
      upper = rw (
        spelled.digits_is,
        digit_written a ka ea,
        digit_written b kb eb,
        digit_written c kc ec,
        digit_written d kd ed,
        digit_written e ke ee,
        digit_written f kf ef,
      );
      low = spelled.low;
    }

six_digits : (a b c d e f n : ℕ) → hex_number 0 (a ∷ b ∷ c ∷ d ∷ e ∷ f ∷ []) ≡ Some n
    → IsNumber (a ∷ b ∷ c ∷ d ∷ e ∷ f ∷ []) n
six_digits a b c d e f n h =
    let fa = first_digit 0 a (b ∷ c ∷ d ∷ e ∷ f ∷ []) n h in
    let fb = first_digit (16 * 0 + fa.0) b (c ∷ d ∷ e ∷ f ∷ []) n fa.2 in
    let fc = first_digit (16 * (16 * 0 + fa.0) + fb.0) c (d ∷ e ∷ f ∷ []) n fb.2 in
    let fd = first_digit (16 * (16 * (16 * 0 + fa.0) + fb.0) + fc.0) d (e ∷ f ∷ []) n fc.2 in
    let fe = first_digit (16 * (16 * (16 * (16 * 0 + fa.0) + fb.0) + fc.0) + fd.0) e (f ∷ []) n fd.2 in
    let ff = first_digit (16 * (16 * (16 * (16 * (16 * 0 + fa.0) + fb.0) + fc.0) + fd.0) + fe.0) f [] n fe.2 in
    upper_by a b c d e f n fa.0 fb.0 fc.0 fd.0 fe.0 ff.0 fa.1 fb.1 fc.1 fd.1 fe.1 ff.1 (cc (ff.2))

pub digits-number_of : (ds : List ℕ) (n : ℕ) → length ds ≡ 6 → number_of ds ≡ Some n → IsNumber ds n
digits-number_of (a ∷ b ∷ c ∷ d ∷ e ∷ f ∷ []) n six h = six_digits a b c d e f n h
digits-number_of [] n six h = absurd (omega arith)
digits-number_of (a ∷ []) n six h = absurd (omega arith)
digits-number_of (a ∷ b ∷ []) n six h = absurd (omega arith)
digits-number_of (a ∷ b ∷ c ∷ []) n six h = absurd (omega arith)
digits-number_of (a ∷ b ∷ c ∷ d ∷ []) n six h = absurd (omega arith)
digits-number_of (a ∷ b ∷ c ∷ d ∷ e ∷ []) n six h = absurd (omega arith)
digits-number_of (a ∷ b ∷ c ∷ d ∷ e ∷ f ∷ g ∷ ds) n six h = absurd (omega arith)
