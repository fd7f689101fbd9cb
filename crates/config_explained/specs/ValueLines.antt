-- On which line of a configuration's text the value begins that a step of its reading looks at.
use Rattle.std.specs.Prelude.{◌≡◌, ℕ, ◌+◌, ◌-◌, ◌<◌, ◌≤◌, ◌++◌, Bool, true, false, List, take, length, if◌then◌else◌}
use Rattle.std.specs.Prelude.{Option, Some, None, option_map, is_some, codes, slice_index}
use Rattle.std.specs.List.{count_by}
use Rattle.std.specs.Str.{IsUtf8}
use Rattle.toml.specs.Data.{Members}
use Rattle.toml.specs.Parse.{parse_document}
use Rattle.catalog.specs.declared.error.Step.{Step}
use Rattle.catalog.specs.declared.error.Step.TheVariants as step
use Rattle.catalog.specs.declared.settings.StationStep.TheVariants as station
use Rattle.config_explained.specs.Places.{is_line_end}
use Rattle.config_explained.specs.Values.{value_at}

-- ---- a text that is cut off

-- the first of two that is there
abbrev pub or_else : Option Members → Option Members → Option Members
or_else None other = other
or_else (Some m) other = Some m

-- with an array closed at its end, or with a table in one
abbrev pub array_reading : List ℕ → Option Members
array_reading t = or_else (parse_document (t ++ codes "]")) (parse_document (t ++ codes "}]"))

-- What the beginning of a text reads as: as it stands, or so closed.
abbrev pub closed_reading : List ℕ → Option Members
closed_reading t = or_else (parse_document t) (array_reading t)

-- whether it has the value of a step, if it is TOML so
abbrev pub has_value : List ℕ → Step → Option Bool
has_value t s = option_map (λ m. is_some (value_at m s)) (closed_reading t)

-- the same, of a text of UTF-8
abbrev pub Reads : List ℕ → Step → Option Bool → Type 0
Reads t s r = IsUtf8 t → has_value t s ≡ r

-- ---- where a value begins

-- No line of a text between two offsets ends where what comes before it is TOML.
abbrev pub NoneReads : List ℕ → Step → ℕ → ℕ → Type 0
NoneReads text s from until =
    (n : ℕ) → from < n → n < until → slice_index text (n - 1) ≡ 10 → Reads (take n text) s None

-- A line begins at the offset. What comes before it has not the value of the step, and has it up to a later end of a
-- line, or of the text; and none of the lines between ends where what comes before is TOML.
pub record BeginsAt (text : List ℕ) (s : Step) (offset : ℕ) : Type 0 where
  pub begins : 0 < offset → slice_index text (offset - 1) ≡ 10
  pub before : Reads (take offset text) s (Some false)
  pub until : ℕ
  pub after : offset < until
  pub within : until ≤ length text
  pub there : Reads (take until text) s (Some true)
  pub between : NoneReads text s offset until

-- the line of that offset
pub record IsLineOf (text : List ℕ) (s : Step) (line : ℕ) : Type 0 where
  pub offset : ℕ
  pub begins : BeginsAt text s offset
  pub counted : line ≡ count_by is_line_end (take offset text) + 1

-- ---- which value is shown

-- of a step of a station its whole table
abbrev pub whole_step : Step → Step
whole_step (step.Station place s) = step.Station place station.Table
whole_step s = s

-- the value of a step, or of its station if that value is not there
abbrev pub step_in : Members → Step → Step
step_in m s = if is_some (value_at m s) then s else whole_step s

-- in a text that is TOML
abbrev pub IsLineIn : Option Members → List ℕ → Step → ℕ → Type 0
IsLineIn None text s line = ⊥
IsLineIn (Some m) text s line = IsLineOf text (step_in m s) line
