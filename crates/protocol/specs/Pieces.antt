-- Bytes in pieces between separators: lines between line ends, words between spaces, the numbers of a time between
-- commas. SeedLink 3, the form of a command: lines of ASCII words. Which bytes separate is said where the pieces are
-- used.
use Rattle.std.specs.Prelude.{ℕ, Bool, if◌then◌else◌, List, [], ◌∷◌}

-- a byte before the first piece
abbrev pub cons_first : ℕ → List (List ℕ) → List (List ℕ)
cons_first b [] = (b ∷ []) ∷ []
cons_first b (p ∷ ps) = (b ∷ p) ∷ ps

-- the pieces between the separators, with the empty ones; there is always a first
abbrev pub split : (ℕ → Bool) → List ℕ → List (List ℕ)
split is_separator [] = [] ∷ []
split is_separator (b ∷ bs) = if is_separator b then []
    ∷ split is_separator bs else cons_first b (split is_separator bs)

-- the pieces that are not empty
abbrev pub without_empty : List (List ℕ) → List (List ℕ)
without_empty [] = []
without_empty ([] ∷ ps) = without_empty ps
without_empty ((b ∷ bs) ∷ ps) = (b ∷ bs) ∷ without_empty ps

-- the pieces that a separator ends
abbrev pub all_but_last : List (List ℕ) → List (List ℕ)
all_but_last [] = []
all_but_last (p ∷ []) = []
all_but_last (p ∷ q ∷ ps) = p ∷ all_but_last (q ∷ ps)

-- the piece after the last separator
abbrev pub last_of : List (List ℕ) → List ℕ
last_of [] = []
last_of (p ∷ []) = p
last_of (p ∷ q ∷ ps) = last_of (q ∷ ps)
