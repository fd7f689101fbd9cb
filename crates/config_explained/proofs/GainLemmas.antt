-- Networks that gain, half by half.
use Rattle.std.proofs.Common.{◌≡◌, ℕ, zero, suc, ◌-◌, ◌<◌, ◌^◌, ◌==◌, List, ◌++◌, arith}
use Rattle.std.proofs.Common.{eqb-true}
use Rattle.std.specs.Prelude.{bit_and}
use Rattle.protocol.specs.Access.{Token}
use Rattle.protocol.proofs.FoundLemmas.{both}
use Rattle.config_explained.specs.Coverage.{coverage, with, without}
use Rattle.config_explained.specs.declared.coverage.Coverage.TheVariants.{Part}
use Rattle.config_explained.specs.Gains.{gain_of, gains_in, masks_at}

-- one that is cut in two
pub cut_in_two : (old new : List Token) (bits : ℕ) (n : Token) → (bit_and (masks_at old new n) (2 ^ bits) ≡ 0 → ⊥)
    → gain_of (coverage old n) (coverage new n) ≡ Part
    → gains_in old new (suc bits) n
    ≡ gains_in old new bits (without (2 ^ bits) n) ++ gains_in old new bits (with (2 ^ bits) n)
unfolding gains_in
cut_in_two old new bits n one part =
    both (bit_and (masks_at old new n) (2 ^ bits) == 0)
    (λ y. absurd (one (eqb-true _ _ y)))
    (λ f. rw (f, part))

pub halves_of : (old new : List Token) (bits : ℕ) (n : Token) → 0 < bits
    → (bit_and (masks_at old new n) (2 ^ (bits - 1)) ≡ 0 → ⊥) → gain_of (coverage old n) (coverage new n) ≡ Part
    → gains_in old new bits n
    ≡ gains_in old new (bits - 1) (without (2 ^ (bits - 1)) n)
    ++ gains_in old new (bits - 1) (with (2 ^ (bits - 1)) n)
halves_of old new zero n some one part = absurd (omega (arith, some))
halves_of old new (suc bits) n some one part =
    let same : suc bits - 1 ≡ bits = omega arith in
    rw same (cut_in_two old new bits n (rw same at one) part)
