-- A table in columns. The form is this project's own.
use Rattle.std.specs.Prelude.{ℕ, ◌+◌, ◌-◌, ◌^◌, ◌==◌, ◌||◌, min, max, nat_lt, if◌then◌else◌, List, [], ◌∷◌, ◌++◌}
use Rattle.std.specs.Prelude.{replicate, slice_index, slice_set}
use Rattle.job_status.specs.declared.columns.Pen.{Pen}

-- a count with one more, which stays at the largest
abbrev pub one_more : ℕ → ℕ
one_more n = min (n + 1) (2 ^ 64 - 1)

-- the place of a table's first byte
abbrev pub origin : Pen
origin = record { column = 0; filled = 0 }

-- the place after a byte: LF is 10, a tab is 9
abbrev pub after : Pen → ℕ → Pen
after p b =
    if b == 10 then origin else if b == 9 then record { column = one_more p.column; filled = 0 }
    else record { column = p.column; filled = one_more p.filled }

-- the widths of columns, once a byte at a place is known: a text ends before a tab
abbrev pub widened : List ℕ → Pen → ℕ → List ℕ
widened ws p b =
    if b == 9 then slice_set ws p.column (max (slice_index ws p.column) p.filled) else ws

abbrev pub widths_from : List ℕ → Pen → List ℕ → List ℕ
widths_from ws p [] = ws
widths_from ws p (b ∷ bs) = widths_from (widened ws p b) (after p b) bs

-- how many spaces stand between a text that ends at a place and the next column
abbrev pub gap : List ℕ → Pen → ℕ
gap ws p = min (slice_index ws p.column - p.filled + 2) (2 ^ 64 - 1)

-- a byte as it is shown: `?`, 63, for one that controls a terminal
abbrev pub shown : ℕ → ℕ
shown b = if nat_lt b 32 || (b == 127) then 63 else b

abbrev pub laid_byte : List ℕ → Pen → ℕ → List ℕ
laid_byte ws p b =
    if b == 9 then replicate (gap ws p) 32 else if b == 10 then 10 ∷ [] else shown b ∷ []

abbrev pub laid_from : List ℕ → Pen → List ℕ → List ℕ
laid_from ws p [] = []
laid_from ws p (b ∷ bs) = laid_byte ws p b ++ laid_from ws (after p b) bs

-- sixteen columns without a width
abbrev pub no_widths : List ℕ
no_widths = replicate 16 0

-- a table, whose columns are as wide as their longest texts that end before a tab
abbrev pub laid_block : List ℕ → List ℕ
laid_block table = laid_from (widths_from no_widths origin table) origin table
