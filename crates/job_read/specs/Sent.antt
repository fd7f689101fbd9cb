-- The first line of what a server sent.
use Rattle.std.specs.Prelude.{ℕ, ◌==◌, List, [], ◌∷◌}
use Rattle.protocol.specs.Pieces.{split}
use Rattle.job_read.specs.WantLines.{without_return}

-- the first of some texts
abbrev pub first_of : List (List ℕ) → List ℕ
first_of [] = []
first_of (text ∷ texts) = text

-- what stands before the first LF (10), without the CR that may stand at its end
abbrev pub first_line : List ℕ → List ℕ
first_line bytes = without_return (first_of (split (λ b. b == 10) bytes))
