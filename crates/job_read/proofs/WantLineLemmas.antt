-- Lines that have wants, one after another.
use Rattle.std.proofs.Common.{◌≡◌, ◌∙◌, ℕ, Bool, true, false, List, [], ◌∷◌, ◌++◌, refl, sym, ap}
use Rattle.std.proofs.Common.{append_assoc}
use Rattle.std.specs.Prelude.{if◌then◌else◌}
use Rattle.job_read.specs.WantLines.{LineOfWant, is_left_out, lines_before, lines_from, next_number, without_return}

-- A line before others is the line, and then the others.
before-by : (b : Bool) (l : LineOfWant) (others : List LineOfWant)
    → (if b then others else l ∷ others) ≡ (if b then [] else l ∷ []) ++ others
before-by true l others = refl
before-by false l others = refl

-- One line more is looked at.
pub line_more : (number : ℕ) (line : List ℕ) (rest : List (List ℕ)) (done more : List LineOfWant)
    → more ≡ done ++ lines_before number (without_return line) []
    → more ++ lines_from (next_number number) rest ≡ done ++ lines_from number (line ∷ rest)
line_more number line rest done more is =
    ap (λ l. l ++ lines_from (next_number number) rest) is
    ∙ append_assoc done (lines_before number (without_return line) []) (lines_from (next_number number) rest)
    ∙ ap (λ l. done ++ l) (sym (before-by (is_left_out (without_return line))
    (record { number = number; text = without_return line }) (lines_from (next_number number) rest)))
