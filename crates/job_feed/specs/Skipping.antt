-- How much of a file is passed over.
use Rattle.std.specs.Prelude.{ℕ, ◌-◌, ◌*◌, min, Option, Some, None}

-- how many bytes are before a record, by its number from 1 on; at most 2^64 - 1
abbrev pub bytes_before : (number : ℕ) → ℕ
bytes_before number = min ((number - 1) * 512) 18446744073709551615

-- the record at which a feed begins: the one that was asked for, and otherwise the first
abbrev pub first_record : (from : Option ℕ) → ℕ
first_record (Some number) = number
first_record None = 1
