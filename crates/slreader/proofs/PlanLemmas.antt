-- Plans of one want.
use Rattle.std.proofs.Common.{◌≡◌, ◌&&◌, Bool, true, false, nat_le, [], ◌∷◌, length, refl, arith}
use Rattle.std.proofs.lemmas.Bool.Decides.{nat_tests}
use Rattle.protocol.proofs.FoundLemmas.{both}
use Rattle.slreader.specs.Wants.{WantValue, is_plan, is_want, patterns_together}
use Rattle.slreader.specs.Wants.PlanValue.{Uni}

in_the_middle : (a b c d : Bool) → (a && (b && c) && d) ≡ true → b ≡ true
in_the_middle true true c d e = refl
in_the_middle true false c d e = absurd cc
in_the_middle false b c d e = absurd cc

few : (w : WantValue) → is_want w ≡ true → nat_le (patterns_together (w ∷ [])) 1024 ≡ true
unfolding is_want
few w spelled =
    let most : nat_le (length w.patterns) 64 ≡ true = in_the_middle _ (nat_le (length w.patterns) 64) _ _ spelled in
    grind (arith, nat_tests)

-- One want is a plan where it can be asked for.
pub one_want : (w : WantValue) → is_want w ≡ is_plan (Uni w)
one_want w = both (is_want w) (λ y. rw (y, few w y) refl) (λ n. rw n refl)
