-- The numbers that a server keeps.
use Rattle.std.specs.Prelude.{ℕ, zero, suc, Bool, is_none, List, [], ◌∷◌}
use Rattle.std.specs.List.{position}
use Rattle.protocol.specs.Catalog.{Config, has_codes}
use Rattle.catalog.specs.Numbers.{Numbered}

-- it is kept for a station that the configuration does not have
abbrev pub is_of_another : Config → Numbered → Bool
is_of_another config n = is_none (position (λ e. has_codes n.network n.code e.station) config.entries)

-- the numbers with that at a place changed
abbrev pub with_next : List Numbered → ℕ → ℕ → List Numbered
with_next [] place next = []
with_next (n ∷ ns) zero next = record n { next = next } ∷ ns
with_next (n ∷ ns) (suc place) next = n ∷ with_next ns place next

-- the numbers of the first places changed
abbrev pub with_nexts : List Numbered → List ℕ → List Numbered
with_nexts [] nexts = []
with_nexts (n ∷ ns) [] = n ∷ ns
with_nexts (n ∷ ns) (next ∷ nexts) = record n { next = next } ∷ with_nexts ns nexts
