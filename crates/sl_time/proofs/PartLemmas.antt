-- The parts between commas.
use Rattle.std.proofs.Common.{◌≡◌, ℕ, Bool, true, false, List, [], ◌∷◌, refl, sym}
use Rattle.std.specs.Prelude.{if◌then◌else◌}
use Rattle.protocol.specs.Pieces.{split, cons_first}
use Rattle.protocol.proofs.FoundLemmas.{both}
use Rattle.sl_time.specs.Parts.{is_comma, is_over}

-- A byte before the first part leaves a part.
first_is_there : (b : ℕ) (ps : List (List ℕ)) → is_over (cons_first b ps) ≡ false
first_is_there b [] = refl
first_is_there b (p ∷ ps) = refl

-- There is always a part.
pub some_part : (xs : List ℕ) → is_over (split is_comma xs) ≡ false
some_part [] = refl
some_part (x ∷ xs) = both (is_comma x) (λ y. rw y refl) (λ n. rw n (first_is_there x (split is_comma xs)))

-- No part is left exactly where the last one was taken.
pub over_is : (over : Bool) (xs : List ℕ) → over ≡ is_over (if over then [] else split is_comma xs)
over_is true xs = refl
over_is false xs = sym (some_part xs)
