-- What a device took.
-- Standard error is outside the standard. Left out: whether anybody reads it.
use Rattle.std.specs.Prelude.{◌≡◌, ℕ, List, ◌++◌, Option, Some, None}

-- The device took those bytes between the two, if it tells what it takes.
abbrev pub Takes : Option (List ℕ) → Option (List ℕ) → List ℕ → Type 0
Takes old None bytes = Unit {0}
Takes (Some before) (Some after) bytes = after ≡ before ++ bytes
Takes None (Some after) bytes = ⊥
