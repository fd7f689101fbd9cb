-- The bits of a row: that of slot n is bit n of its words, counted from the lowest bit of the first.
-- This project's own.
use Rattle.std.specs.Prelude.{ℕ, ◌*◌, ◌/◌, ◌%◌, ◌<◌, ◌==◌, Bool, List, length, slice_index_or}
use Rattle.std.specs.Int.{bit_at}
use Rattle.server_core.specs.declared.marks.BitRow.{BitRow}

-- bit n of some words
abbrev pub bit_in : List ℕ → ℕ → Bool
bit_in words n = bit_at (slice_index_or words (n / 64) 0) (n % 64) == 1

-- whether a slot's bit is set
abbrev pub bit_of : BitRow → ℕ → Bool
bit_of row slot = bit_in row.words.items slot

-- A row has room for a slot's bit.
abbrev pub HasRoom : BitRow → ℕ → Type 0
HasRoom row slot = slot < 64 * length row.words.items
