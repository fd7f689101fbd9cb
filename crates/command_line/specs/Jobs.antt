-- What the options of a job are: which can stand together, and the numbers and times that their texts spell.
use Rattle.std.specs.Prelude.{◌≡◌, ◌≤◌, ◌-◌, ◌*◌, ◌==◌, ◌&&◌, ◌||◌, not, is_some, ℕ, Bool, true, false, List}
use Rattle.std.specs.Prelude.{if◌then◌else◌, nat_lt, length, Option, Some, None, option_and_then, option_map, slice_index}
use Rattle.std.specs.Prelude.{take}
use Rattle.protocol.specs.Time.{digits_between}
use Rattle.command_line.specs.declared.job.FeedOptions.{FeedOptions}
use Rattle.command_line.specs.declared.job.Job.{Job}
use Rattle.command_line.specs.declared.job.Job.TheVariants as job
use Rattle.command_line.specs.declared.job.ReadOptions.{ReadOptions}
use Rattle.command_line.specs.declared.job.ServeOptions.{ServeOptions}
use Rattle.command_line.specs.declared.job.ViewOptions.{ViewOptions}
use Rattle.text_parts.specs.declared.period.Period.{Period}
use Rattle.text_parts.specs.declared.period.Period.TheVariants.{Turns, Seconds}

-- ---- numbers and times

-- a number from 1 to 1,000,000,000
abbrev pub in_range : ℕ → Option ℕ
in_range n = if nat_lt n 1 || nat_lt 1000000000 n then None else Some n

-- the number that a text of 1 to 10 decimal digits spells
abbrev pub number_of : List ℕ → Option ℕ
number_of text = option_and_then in_range (digits_between 1 10 text)

-- how many seconds a unit has: s (115), m (109) or h (104)
abbrev pub seconds_in_unit : ℕ → Option ℕ
seconds_in_unit b =
    if b == 115 then Some 1 else if b == 109 then Some 60 else if b == 104 then Some 3600 else None

-- so many units of so many seconds
abbrev pub units : Option ℕ → Option ℕ → Option ℕ
units (Some unit) (Some n) = in_range (n * unit)
units _ _ = None

-- the seconds that a text spells whose last byte is a unit
abbrev pub time_of : List ℕ → Option ℕ
time_of text =
    if length text == 0 then None
    else units (seconds_in_unit (slice_index text (length text - 1))) (number_of (take (length text - 1) text))

-- the one if it is there, else the other
abbrev pub or_else : Option ℕ → Option ℕ → Option ℕ
or_else (Some n) other = Some n
or_else None other = other

-- the seconds that a text spells, with a unit or without
abbrev pub seconds_of : List ℕ → Option ℕ
seconds_of text = or_else (number_of text) (time_of text)

-- how often: so many turns, or else so many seconds
abbrev pub often : Option ℕ → Option ℕ → Option Period
often (Some turns) seconds = Some (Turns turns)
often None seconds = option_map Seconds seconds

-- how often a text says: without a unit it is turns
abbrev pub period_of : List ℕ → Option Period
period_of text = often (number_of text) (time_of text)

-- a number that is there is in the range
abbrev pub InRange : Option ℕ → Type 0
InRange None = Unit {0}
InRange (Some n) = (1 ≤ n) × (n ≤ 1000000000)

-- so is that of a period
abbrev pub IsOften : Option Period → Type 0
IsOften None = Unit {0}
IsOften (Some (Turns n)) = (1 ≤ n) × (n ≤ 1000000000)
IsOften (Some (Seconds n)) = (1 ≤ n) × (n ≤ 1000000000)

-- ---- options that can stand together

-- They say something of a status page that is not asked for.
abbrev pub is_without_page : ServeOptions → Bool
is_without_page o =
    not (is_some o.status) && (is_some o.status_from || is_some o.status_name || is_some o.silent)

-- They go on by numbers after a break.
abbrev pub goes_on : ReadOptions → Bool
goes_on o = is_some o.retry || is_some o.state

-- SeedLink can spell them: an end stands only beside a begin, not beside `--fetch`, and not beside `--retry` or
-- `--state`, since what lies before an end can't be asked for by a number.
abbrev pub is_spelled : ReadOptions → Bool
is_spelled o = not (is_some o.last) || (is_some o.begin && not o.fetch && not (goes_on o))

-- Besides, records go into an archive or to an output, and not to both.
abbrev pub is_askable : ReadOptions → Bool
is_askable o = is_spelled o && (not (is_some o.archive) || not (is_some o.output))

-- The numbers of `serve` are in their range, and nothing is said of a page that is not asked for.
pub record IsServing (o : ServeOptions) : Type 0 where
  pub page : is_without_page o ≡ false
  pub turns : InRange o.turns
  pub reread : IsOften o.reread
  pub report : IsOften o.report
  pub per_address : InRange o.per_address
  pub silent : InRange o.silent

-- Those of `feed` are, and it goes on behind what is not valid in one way.
pub record IsFeeding (o : FeedOptions) : Type 0 where
  pub one_way : (o.is_strict && o.skips) ≡ false
  pub from : InRange o.from
  pub timeout : InRange o.timeout

-- Those of `read` are, and its options can stand together.
pub record IsReading (o : ReadOptions) : Type 0 where
  pub askable : is_askable o ≡ true
  pub retry : InRange o.retry
  pub timeout : InRange o.timeout

-- Words for whom don't stand beside a station.
abbrev pub IsViewing : ViewOptions → Type 0
IsViewing o = (is_some o.who && is_some o.station) ≡ false

-- What the program can be asked to do.
abbrev pub IsJob : Job → Type 0
IsJob (job.View o) = IsViewing o
IsJob (job.Serve o) = IsServing o
IsJob (job.Feed server files o) = IsFeeding o
IsJob (job.Read server wants o) = IsReading o
IsJob _ = Unit {0}
