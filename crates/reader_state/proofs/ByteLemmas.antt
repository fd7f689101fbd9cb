-- Bytes that are neither a space nor the end of a line.
use Rattle.std.proofs.Common.{◌≡◌, ◌≢◌, ℕ, ℤ, pos, negsuc, suc, ◌<◌, ◌^◌, ◌&&◌, Bool, true, false, List, []}
use Rattle.std.proofs.Common.{◌∷◌, ◌++◌, Some, None, refl, arith}
use Rattle.std.proofs.lemmas.Bool.Decides.{nat_tests}
use Rattle.std.specs.Prelude.{Option}
use Rattle.std.specs.List.{list_all}
use Rattle.std.specs.Fmt.{decimal}
use Rattle.std.specs.Str.Parse.{AllDigits}
use Rattle.std.proofs.lemmas.Fmt.{decimal_is_IsNumeral}
use Rattle.std.proofs.lemmas.Str.Parse.{digit_from_value}
use Rattle.protocol.specs.Packet.{digit, digits}
use Rattle.slreader.specs.Wants.{is_code, is_code_byte}
use Rattle.reader_state.specs.States.{IsEnd, Lacks, end_text}

pub both : (a b : Bool) → (a && b) ≡ true → (a ≡ true) × (b ≡ true)
both true b h = (refl, h)
both false b h = absurd cc

code-differs : (x b : ℕ) → is_code_byte x ≡ true → b < 48 → x ≢ b
code-differs x b h small = grind (arith, nat_tests)

bytes-lack : (b : ℕ) (xs : List ℕ) → b < 48 → list_all is_code_byte xs ≡ true → Lacks b xs
bytes-lack b [] small h = tt
bytes-lack b (x ∷ xs) small h =
    let each = both (is_code_byte x) (list_all is_code_byte xs) h in
    (code-differs x b each.0 small, bytes-lack b xs small each.1)

pub code-lacks : (b most : ℕ) (code : List ℕ) → b < 48 → is_code most code ≡ true → Lacks b code
code-lacks b most code small h = bytes-lack b code small (both _ _ h).1

digit-differs : (n b : ℕ) → b < 48 → digit n ≢ b
digit-differs n b small = grind (arith, nat_tests)

pub digits-lack : (b n : ℕ) → b < 48 → Lacks b (digits n)
digits-lack b n small = (
  digit-differs _ b small,
  (
    digit-differs _ b small,
    (
      digit-differs _ b small,
      (
        digit-differs _ b small,
        (digit-differs _ b small, (digit-differs _ b small, tt)),
      ),
    ),
  ),
)

decimals-lack : (b : ℕ) (ds : List ℕ) → b < 48 → AllDigits 10 ds → Lacks b ds
decimals-lack b [] small h = tt
decimals-lack b (c ∷ cs) small h =
    let differs : c ≢ b = λ is. omega (arith, digit_from_value c h.0, is) in
    (differs, decimals-lack b cs small h.1)

pub decimal-lacks : (b n : ℕ) → b < 48 → n < 2 ^ 64 → Lacks b (decimal n)
decimal-lacks b n small fits = decimals-lack b (decimal n) small (decimal_is_IsNumeral n fits).0.1

pub end-lacks : (b : ℕ) (end : Option ℤ) → b < 45 → IsEnd end → Lacks b (end_text end)
end-lacks b None small h = (λ is. omega (arith, is, small), tt)
end-lacks b (Some (pos n)) small h =
    let fits : n < 2 ^ 63 = h.1 in
    decimal-lacks b n (omega (arith, small)) (omega (arith, fits))
end-lacks b (Some (negsuc n)) small h =
    let fits : n < 2 ^ 63 = h.1 in
    (λ is. omega (arith, is, small), decimal-lacks b (suc n) (omega (arith, small)) (omega (arith, fits)))

pub lacks-append : (b : ℕ) (xs ys : List ℕ) → Lacks b xs → Lacks b ys → Lacks b (xs ++ ys)
lacks-append b [] ys h k = k
lacks-append b (x ∷ xs) ys h k = (h.0, lacks-append b xs ys h.1 k)
