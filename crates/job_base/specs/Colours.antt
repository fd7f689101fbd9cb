-- When what is written to a terminal has colours.
use Rattle.std.specs.Prelude.{ℕ, Bool, true, false, not, ◌&&◌, List, [], ◌∷◌, Option, Some, None, codes}
use Rattle.std.specs.Str.{bytes_eq}

-- NO_COLOR has a text
abbrev pub has_text : Option (List ℕ) → Bool
has_text None = false
has_text (Some []) = false
has_text (Some (b ∷ bs)) = true

-- the terminal that TERM names has colours
abbrev pub is_coloured : Option (List ℕ) → Bool
is_coloured None = false
is_coloured (Some term) = has_text (Some term) && not (bytes_eq term (codes "dumb"))

-- by the values of NO_COLOR and TERM
abbrev pub allows_colours : (no_color term : Option (List ℕ)) → Bool
allows_colours no_color term = not (has_text no_color) && is_coloured term
