-- The lines of a file that have wants. The file is this project's own.
use Rattle.std.specs.Prelude.{ℕ, ◌+◌, ◌-◌, Bool, true, ◌==◌, if◌then◌else◌, List, [], ◌∷◌, length, take, min}
use Rattle.std.specs.Prelude.{slice_index}
use Rattle.protocol.specs.Pieces.{split}
use Rattle.job_read.specs.declared.want_lines.WantLine.{WantLine}

-- a line that has a want, and its number in the file, from 1 on
pub record LineOfWant : Type 0 where
  pub number : ℕ
  pub text : List ℕ

abbrev pub line_value : WantLine → LineOfWant
line_value l = record { number = l.number; text = l.text.now }

-- a line without the CR (13) that may stand at its end
abbrev pub without_return : List ℕ → List ℕ
without_return line =
    if length line == 0 then line
    else if slice_index line (length line - 1) == 13 then take (length line - 1) line else line

-- The line is empty, or begins with `#` (35).
abbrev pub is_left_out : List ℕ → Bool
is_left_out [] = true
is_left_out (b ∷ bs) = b == 35

-- the line with that number before others, unless it is passed over
abbrev pub lines_before : (number : ℕ) → List ℕ → List LineOfWant → List LineOfWant
lines_before number line others =
    if is_left_out line then others else record { number = number; text = line } ∷ others

-- the number after one, at most 2^64 - 1
abbrev pub next_number : ℕ → ℕ
next_number number = min (number + 1) 18446744073709551615

-- the lines that have wants, of which the first has that number
abbrev pub lines_from : (number : ℕ) → List (List ℕ) → List LineOfWant
lines_from number [] = []
lines_from number (line ∷ lines) =
    lines_before number (without_return line) (lines_from (next_number number) lines)

-- those of a text
abbrev pub want_lines : List ℕ → List LineOfWant
want_lines text = lines_from 1 (split (λ b. b == 10) text)
