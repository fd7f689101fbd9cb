-- Lines to a device that may take none of one, or a part.
-- Standard error is outside the standard. Left out: when it takes something again.
use Rattle.std.specs.Prelude.{◌≡◌, ◌==◌, ℕ, ◌+◌, ◌-◌, ◌^◌, ◌≤◌, Bool, false, not, if◌then◌else◌, List, [], ◌∷◌}
use Rattle.std.specs.Prelude.{◌++◌, codes, decimal, length, min, nat_le, slice_index, take, Option}
use Rattle.error_lines.specs.Devices.{Takes}

-- What is kept between two lines: how many were dropped that nobody was told of, and whether the last bytes that were
-- taken end inside a line.
pub record LinesValue : Type 0 where
  pub dropped : ℕ
  pub is_cut : Bool

-- the line that says how many were dropped, if any were
abbrev pub notice_of : ℕ → List ℕ
notice_of dropped = if dropped == 0 then [] else codes "seedlinkd: lines dropped: " ++ decimal dropped ++ 10 ∷ []

-- what goes before a line: the end of one of which a part was taken, and the notice
abbrev pub head_of : LinesValue → List ℕ
head_of v = (if v.is_cut then 10 ∷ [] else []) ++ notice_of v.dropped

-- all that is written for a line
abbrev pub text_of : LinesValue → List ℕ → List ℕ
text_of v line = head_of v ++ line ++ 10 ∷ []

-- how many are dropped, if the first `count` bytes of a text were taken and not all: the line alone once the `head`
-- bytes before it were, and else it with those before it
abbrev pub dropped_after : (dropped head count : ℕ) → ℕ
dropped_after dropped head count = if nat_le head count then 1 else min (dropped + 1) (2 ^ 64 - 1)

-- whether what was taken ends inside a line, if the first `count` bytes of a text were
abbrev pub is_cut_after : Bool → List ℕ → ℕ → Bool
is_cut_after is_cut text count = if count == 0 then is_cut else not (slice_index text (count - 1) == 10)

-- what is kept after a text, with `head` bytes before its line, of which the first `count` bytes were taken
abbrev pub noted : LinesValue → (text : List ℕ) → (head count : ℕ) → LinesValue
noted v text head count =
    if count == length text then record { dropped = 0; is_cut = false }
    else record { dropped = dropped_after v.dropped head count; is_cut = is_cut_after v.is_cut text count }

-- what is kept after a line of which the first `count` bytes were taken, with what stands before it
abbrev pub value_after : LinesValue → List ℕ → ℕ → LinesValue
value_after v line count = noted v (text_of v line) (length (head_of v)) count

-- A line was written, or dropped: the device took a beginning of what is written for it, which is all of that if the
-- line was written, and what is kept is by how much it took.
pub record WritesLine
    (before after : LinesValue) (old new : Option (List ℕ)) (line : List ℕ) (is_written : Bool) : Type 0 where
  pub count : ℕ
  pub most : count ≤ length (text_of before line)
  pub taken : Takes old new (take count (text_of before line))
  pub value : after ≡ value_after before line count
  pub answer : is_written ≡ (count == length (text_of before line))
