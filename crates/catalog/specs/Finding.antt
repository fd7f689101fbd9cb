-- Which station a client means by a code alone.
use Rattle.std.specs.Prelude.{ℕ, ◌<◌, Bool, List, length}
use Rattle.std.specs.Str.{bytes_eq}
use Rattle.protocol.specs.Catalog.{Entry, Station}

-- a station has that code
abbrev pub has_code : List ℕ → Station → Bool
has_code code s = bytes_eq s.code code

-- a place is one of these stations'
abbrev pub IsWithin : List Entry → ℕ → Type 0
IsWithin entries place = place < length entries
