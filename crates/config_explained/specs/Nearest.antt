-- Which key a key that is not known may have been meant to be: one that becomes it by few changes.
-- How near is near is this project's own. The distance is that of the crate `strsim`: the fewest characters that are left
-- out, put in or replaced, or exchanged with their neighbours.
use Rattle.std.specs.Prelude.{ℕ, length, nat_le, Bool, List, find, Option}
use Rattle.std.specs.Option.{option_or}
use Rattle.std.specs.Str.{chars}
use Rattle.strsim.specs.Edits.{osa_table}

-- the distance of two texts
abbrev pub distance : List ℕ → List ℕ → ℕ
distance text known = (osa_table (chars text) (chars known)).last_row (length (chars known))

-- a text becomes another one by at most so many changes
abbrev pub is_near : ℕ → List ℕ → List ℕ → Bool
is_near changes text known = nat_le (distance text known) changes

-- the first key of a table that is nearest: by one change, or else by two
abbrev pub nearest : List ℕ → List (List ℕ) → Option (List ℕ)
nearest key known = option_or (find (is_near 1 key) known) (find (is_near 2 key) known)
