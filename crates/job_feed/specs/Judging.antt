-- How much of a file of records is passed on, in which so many records in a row can't be read that it is given up.
use Rattle.std.specs.Prelude.{ℕ, ◌+◌, ◌-◌, ◌^◌, min}

-- how many of so many bytes lie before the end of sixteen records, the first of which begins at that place of the file,
-- where so many bytes of the file came before them
abbrev pub row_part : (first before count : ℕ) → ℕ
row_part first before count = min count (min (first + 8192) (2 ^ 64 - 1) - before)
