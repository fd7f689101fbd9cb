-- What a view writes.
use Rattle.std.specs.Prelude.{ℕ, List, [], Option, Some, None}

-- a text, or nothing
abbrev pub or_nothing : Option (List ℕ) → List ℕ
or_nothing None = []
or_nothing (Some text) = text
