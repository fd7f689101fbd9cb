-- Moments, as ticks of 0.0001 s from 1970-01-01T00:00:00: by the year and the day of the year, as a record has them,
-- and by a civil date, as a command spells it. SEED Reference Manual 2.4, chapter 8, the data type BTIME; SeedLink 3,
-- the times of DATA, FETCH and TIME. Left out: leap seconds (a second 60 is the next minute's first moment), fractions
-- of a second in commands.
use Rattle.std.specs.Prelude.{ℕ, ◌+◌, ◌*◌, ◌-◌, ◌/◌, ◌%◌, zero, suc, Bool, ◌&&◌, ◌||◌, not, nat_le, ◌==◌, if◌then◌else◌}
use Rattle.std.specs.Prelude.{List, [], ◌∷◌, length, ℤ, pos, ◌-ℤ◌, Option, Some, None, option_and_then}
use Rattle.protocol.specs.Pieces.{split}

-- ---- ticks

-- days from January 1 of the year 1 to January 1 of the year
abbrev pub days_before : ℕ → ℕ
days_before y = 365 * (y - 1) + (y - 1) / 4 - (y - 1) / 100 + (y - 1) / 400

-- the ticks of a day of the year, counted from 1, and a time of the day, with a fraction in units of 0.0001 s
abbrev pub tick : (year day hour minute second fraction : ℕ) → ℤ
tick year day hour minute second fraction =
    pos (864000000 * (days_before year + (day - 1)) + 36000000 * hour + 600000 * minute + 10000 * second + fraction) -ℤ
    pos (864000000 * days_before 1970)

-- A year of 1900 to 2100, and a day of 1 to 366, in whatever year.
abbrev pub is_day : (year day : ℕ) → Bool
is_day year day = nat_le 1900 year && nat_le year 2100 && nat_le 1 day && nat_le day 366

-- a time of the day; a second may be the 60th
abbrev pub is_time_of_day : (hour minute second fraction : ℕ) → Bool
is_time_of_day hour minute second fraction =
    nat_le hour 23 && nat_le minute 59 && nat_le second 60 && nat_le fraction 9999

-- the ticks of the numbers of a BTIME, or None where one is out of range
abbrev pub btime_tick : (year day hour minute second fraction : ℕ) → Option ℤ
btime_tick year day hour minute second fraction =
    if is_day year day && is_time_of_day hour minute second fraction
    then Some (tick year day hour minute second fraction)
    else None

-- ---- the calendar

-- a year with a February 29
abbrev pub is_leap : ℕ → Bool
is_leap y = (y % 4 == 0) && (not (y % 100 == 0) || y % 400 == 0)

-- the days of the month m, from 1 to 12, of the year y
abbrev pub days_in : (y m : ℕ) → ℕ
days_in y m =
    if m == 2 then (if is_leap y then 29 else 28)
    else if m == 4 || m == 6 || m == 9 || m == 11 then 30
    else 31

-- days of the year before the month
abbrev pub days_of_year_before : (y m : ℕ) → ℕ
days_of_year_before y zero = 0
days_of_year_before y (suc zero) = 0
days_of_year_before y (suc (suc m)) = days_of_year_before y (suc m) + days_in y (suc m)

-- ---- the time of a command

-- the numbers of a civil date and a time of that day, in range or not
pub record CivilTime : Type 0 where
  pub year : ℕ
  pub month : ℕ
  pub day : ℕ
  pub hour : ℕ
  pub minute : ℕ
  pub second : ℕ

-- The year is one of 1900 to 2100, the date exists, and the time is one of a day.
abbrev pub is_civil : CivilTime → Bool
is_civil t =
    nat_le 1900 t.year && nat_le t.year 2100 && nat_le 1 t.month && nat_le t.month 12 && nat_le 1 t.day &&
    nat_le t.day (days_in t.year t.month)
    && is_time_of_day t.hour t.minute t.second 0

-- its ticks, or None where it is out of range
abbrev pub civil_tick : CivilTime → Option ℤ
civil_tick t =
    if is_civil t then Some (tick t.year (days_of_year_before t.year t.month + t.day) t.hour t.minute t.second 0)
    else None

-- the number of a decimal digit
abbrev pub decimal_digit : ℕ → Option ℕ
decimal_digit b = if nat_le 48 b && nat_le b 57 then Some (b - 48) else None

-- the number that decimal digits spell, behind those that spell n
abbrev pub decimal_number : ℕ → List ℕ → Option ℕ
decimal_number n [] = Some n
decimal_number n (b ∷ bs) = option_and_then (λ d. decimal_number (10 * n + d) bs) (decimal_digit b)

-- the number that `low` to `high` decimal digits spell
abbrev pub digits_between : (low high : ℕ) → List ℕ → Option ℕ
digits_between low high bs = if nat_le low (length bs) && nat_le (length bs) high then decimal_number 0 bs else None

-- one number more, where all are there
abbrev pub cons_some : Option ℕ → Option (List ℕ) → Option (List ℕ)
cons_some (Some n) (Some ns) = Some (n ∷ ns)
cons_some _ _ = None

-- numbers of one or two digits
abbrev pub short_numbers : List (List ℕ) → Option (List ℕ)
short_numbers [] = Some []
short_numbers (p ∷ ps) = cons_some (digits_between 1 2 p) (short_numbers ps)

-- a civil time of six numbers
abbrev pub civil : (year month day hour minute second : ℕ) → CivilTime
civil year month day hour minute second =
    record { year = year; month = month; day = day; hour = hour; minute = minute; second = second }

-- Year, month, day, and then hour, minute and second, of which the last ones may be missing and are then 0.
abbrev pub civil_of_numbers : Option ℕ → Option (List ℕ) → Option CivilTime
civil_of_numbers (Some y) (Some (m ∷ d ∷ [])) = Some (civil y m d 0 0 0)
civil_of_numbers (Some y) (Some (m ∷ d ∷ hour ∷ [])) = Some (civil y m d hour 0 0)
civil_of_numbers (Some y) (Some (m ∷ d ∷ hour ∷ minute ∷ [])) = Some (civil y m d hour minute 0)
civil_of_numbers (Some y) (Some (m ∷ d ∷ hour ∷ minute ∷ second ∷ [])) = Some (civil y m d hour minute second)
civil_of_numbers _ _ = None

-- a year of four digits, and numbers of one or two
abbrev pub civil_of_parts : List (List ℕ) → Option CivilTime
civil_of_parts [] = None
civil_of_parts (y ∷ ps) = civil_of_numbers (digits_between 4 4 y) (short_numbers ps)

-- the civil time that a text has the shape of, its numbers parted by commas; None where it has no such shape
abbrev pub civil_of : List ℕ → Option CivilTime
civil_of text = civil_of_parts (split (λ b. b == 44) text)

-- the ticks that a text spells; None where it has not the shape of a time, or a number is out of range
abbrev pub time_of : List ℕ → Option ℤ
time_of text = option_and_then civil_tick (civil_of text)
