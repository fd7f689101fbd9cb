-- A moment as users read it: its date and its time of the day, in UTC, by the calendar of the definitions.
-- ISO 8601, date and time in UTC, to the ten-thousandth of a second. Left out: leap seconds, and years before 1 or
-- after 9999, whose moments are written as ticks.
use Rattle.std.specs.Prelude.{ℕ, ◌+◌, ◌-◌, ◌*◌, ◌/◌, ◌%◌, zero, suc, nat_le, nat_lt, if◌then◌else◌, List, [], ◌∷◌, ◌++◌}
use Rattle.std.specs.Prelude.{ℤ, pos, negsuc, ◌+ℤ◌, Option, Some, None, decimal, option_map}
use Rattle.std.specs.Option.{option_map_or}
use Rattle.std.specs.Fmt.{signed_decimal}
use Rattle.protocol.specs.Time.{days_before, days_in}

-- ---- the date

-- the last of the years 1 to `last` that begins at most so many days after January 1 of the year 1; 0 if none does
unfoldable pub year_by : (last days : ℕ) → ℕ
year_by zero days = 0
year_by (suc year) days = if nat_le (days_before (suc year)) days then suc year else year_by year days

-- the year in which the day lies that comes so many days after January 1 of the year 1. No year has fewer than 365
-- days.
unfoldable pub year_of : ℕ → ℕ
year_of days = year_by (days / 365 + 1) days

-- a month of a year, and a day of that month, from 1 on
pub record MonthDay : Type 0 where
  pub month : ℕ
  pub day : ℕ

abbrev pub month_day : ℕ → ℕ → MonthDay
month_day month day = record { month = month; day = day }

-- the month and the day of a day that is counted from the beginning of a month, after which so many months come
unfoldable pub month_from : (later year month day : ℕ) → MonthDay
month_from zero year month day = month_day month day
month_from (suc later) year month day =
    if nat_le day (days_in year month) then month_day month day
    else month_from later year (month + 1) (day - days_in year month)

-- the month and the day of a day of the year, counted from 1
abbrev pub date_of : (year day : ℕ) → MonthDay
date_of year day = month_from 11 year 1 day

-- ---- the moment

-- a date and a time of the day, with a fraction in units of 0.0001 s
pub record CivilMoment : Type 0 where
  pub year : ℕ
  pub month : ℕ
  pub day : ℕ
  pub hour : ℕ
  pub minute : ℕ
  pub second : ℕ
  pub fraction : ℕ

-- the time of the day after so many ticks, on that date
abbrev pub on_date : (year : ℕ) → MonthDay → (ticks : ℕ) → CivilMoment
on_date year date ticks =
    record {
      year = year;
      month = date.month;
      day = date.day;
      hour = ticks / 36000000;
      minute = ticks / 600000 % 60;
      second = ticks / 10000 % 60;
      fraction = ticks % 10000;
    }

-- the moment so many ticks after the beginning of the day that comes so many days after January 1 of the year 1
abbrev pub moment_on : (days ticks : ℕ) → CivilMoment
moment_on days ticks = on_date (year_of days) (date_of (year_of days) (days - days_before (year_of days) + 1)) ticks

-- the moment so many ticks after the beginning of the year 1
abbrev pub moment_after : ℕ → CivilMoment
moment_after ticks = moment_on (ticks / 864000000) (ticks % 864000000)

-- a number of ticks that lies before the year 10000
abbrev pub counted : ℤ → Option ℕ
counted (pos n) = if nat_lt n (864000000 * days_before 10000) then Some n else None
counted (negsuc k) = None

-- how many ticks after the beginning of the year 1 a tick is; None outside the years 1 to 9999
abbrev pub ticks_since_year_1 : ℤ → Option ℕ
ticks_since_year_1 moment = counted (moment +ℤ pos (864000000 * days_before 1970))

-- the date and the time of the day of a tick; None outside the years 1 to 9999
abbrev pub civil_moment : ℤ → Option CivilMoment
civil_moment moment = option_map moment_after (ticks_since_year_1 moment)

-- ---- the text

-- the decimal digit of a number that stands for so many
abbrev pub digit : (unit number : ℕ) → ℕ
digit unit number = 48 + number / unit % 10

abbrev pub two_digits : ℕ → List ℕ
two_digits n = digit 10 n ∷ digit 1 n ∷ []

abbrev pub four_digits : ℕ → List ℕ
four_digits n = digit 1000 n ∷ digit 100 n ∷ two_digits n

-- so many ticks in seconds, with four decimals: `.` is 46
abbrev pub seconds_text : ℕ → List ℕ
seconds_text ticks = decimal (ticks / 10000) ++ 46 ∷ four_digits (ticks % 10000)

-- `2024-02-29T12:30:15.0250Z`: `-` is 45, `T` is 84, `:` is 58, `.` is 46, `Z` is 90
abbrev pub iso_text : CivilMoment → List ℕ
iso_text m =
    four_digits m.year ++ 45 ∷ two_digits m.month ++ 45 ∷ two_digits m.day ++ 84 ∷ two_digits m.hour
    ++ 58 ∷ two_digits m.minute ++ 58 ∷ two_digits m.second ++ 46 ∷ four_digits m.fraction ++ 90 ∷ []

-- the text of a tick: its date and time of the day, or the number of ticks outside the years 1 to 9999
unfoldable pub moment_text : ℤ → List ℕ
moment_text moment = option_map_or iso_text (civil_moment moment) (signed_decimal moment)
