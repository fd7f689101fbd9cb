-- Wants that clash, one after another.
use Rattle.std.proofs.Common.{◌≡◌, ◌∙◌, ℕ, ◌+◌, ◌<◌, true, false, List, ◌∷◌, length, take, drop, get_or, Some}
use Rattle.std.proofs.Common.{refl, sym, ap}
use Rattle.std.specs.Prelude.{if◌then◌else◌}
use Rattle.std.specs.List.{list_any}
use Rattle.std.proofs.lemmas.List.{drop_more}
use Rattle.slreader.specs.Wants.{WantValue}
use Rattle.job_read.specs.Together.{clash, clash_from}

-- What is found from a place on is found at that place, or from the next one on.
found-from : (all : List WantValue) (place : ℕ) (w : WantValue) → place < length all → w ≡ get_or all place w
    → clash_from all place (drop place all)
    ≡ (if list_any (λ v. clash v w) (take place all) then Some place
    else clash_from all (place + 1) (drop (place + 1) all))
found-from all place w inside is =
    ap (clash_from all place) (drop_more all place w inside ∙ ap (λ (x : WantValue). x ∷ drop (place + 1) all) (sym is))

-- The want at a place clashes.
pub clashes-here : (all : List WantValue) (place : ℕ) (w : WantValue) → place < length all → w ≡ get_or all place w
    → list_any (λ v. clash v w) (take place all) ≡ true
    → clash_from all place (drop place all) ≡ Some place
clashes-here all place w inside is clashes = found-from all place w inside is ∙ rw clashes refl

-- It does not.
pub clashes-later : (all : List WantValue) (place : ℕ) (w : WantValue) → place < length all → w ≡ get_or all place w
    → list_any (λ v. clash v w) (take place all) ≡ false
    → clash_from all place (drop place all) ≡ clash_from all (place + 1) (drop (place + 1) all)
clashes-later all place w inside is clashes = found-from all place w inside is ∙ rw clashes refl
