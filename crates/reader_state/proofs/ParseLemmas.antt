-- Ends of records that are read back.
use Rattle.std.proofs.Common.{◌≡◌, ℕ, ℤ, List, [], ◌∷◌, Ok, Err, Some, None, refl, sym, ap, ◌∙◌, subst, arith}
use Rattle.std.specs.Prelude.{Option, Result}
use Rattle.std.specs.Int.{w64}
use Rattle.std.specs.Result.{result_ok}
use Rattle.std.specs.Fmt.{signed_decimal}
use Rattle.std.specs.Str.Parse.{ParsesSigned}
use Rattle.std.proofs.lemmas.Fmt.{IsAscii-signed, parse-signed_decimal}
use Rattle.std.proofs.lemmas.Str.{IsUtf8-from_ascii}
use Rattle.std.specs.Str.{IsUtf8}
use Rattle.reader_state.specs.States.{IsEnd}

-- what is written is text
pub decimal-utf8 : (bs : List ℕ) (tick : ℤ) → IsEnd (Some tick) → bs ≡ signed_decimal tick → IsUtf8 bs
decimal-utf8 bs tick h is = subst IsUtf8 (sym is) (IsUtf8-from_ascii (signed_decimal tick) (IsAscii-signed tick h.1))

pub parsed-back : {E : Type 0} → (bs : List ℕ) (tick : ℤ) (r : Result ℤ E) (o : Option ℤ) → o ≡ result_ok r
    → IsEnd (Some tick) → bs ≡ signed_decimal tick → ParsesSigned w64 10 bs r → o ≡ Some tick
parsed-back bs tick r o of h is p = of ∙ ap result_ok (parse-signed_decimal w64 tick bs r h.0 h.1 is p)

no-number : {E : Type 0} → (r : Result ℤ E) → ParsesSigned w64 10 (45 ∷ []) r → result_ok r ≡ None
no-number (Ok x) p = absurd (omega (arith, p.0.0.0))
no-number (Err e) p = refl

pub parsed-none : {E : Type 0} → (bs : List ℕ) (r : Result ℤ E) (o : Option ℤ) → o ≡ result_ok r → bs ≡ 45 ∷ []
    → ParsesSigned w64 10 bs r → o ≡ None
parsed-none bs r o of is p = of ∙ no-number r (subst (λ t. ParsesSigned w64 10 t r) is p)
