-- Dates and times of the day, and the ticks that they are.
-- ISO 8601, date and time in UTC. Left out: leap seconds.
use Rattle.std.specs.Prelude.{◌≡◌, ℕ, ℤ, ◌+◌, ◌≤◌}
use Rattle.protocol.specs.Time.{days_in, days_of_year_before, tick}
use Rattle.sl_time.specs.Written.{CivilMoment}

-- The date is one of the calendar in the years 1 to 9999, and the time is one of a day.
pub record IsMoment (m : CivilMoment) : Type 0 where
  pub years : 1 ≤ m.year
  pub last_year : m.year ≤ 9999
  pub months : 1 ≤ m.month
  pub last_month : m.month ≤ 12
  pub days : 1 ≤ m.day
  pub last_day : m.day ≤ days_in m.year m.month
  pub hours : m.hour ≤ 23
  pub minutes : m.minute ≤ 59
  pub seconds : m.second ≤ 59
  pub fractions : m.fraction ≤ 9999

-- its tick
abbrev pub moment_tick : CivilMoment → ℤ
moment_tick m =
    tick m.year (days_of_year_before m.year m.month + m.day) m.hour m.minute m.second m.fraction

-- the beginning of its second
abbrev pub whole_second : CivilMoment → CivilMoment
whole_second m = record m { fraction = 0 }

-- that of its minute
abbrev pub whole_minute : CivilMoment → CivilMoment
whole_minute m = record m { second = 0; fraction = 0 }

-- that of its day
abbrev pub whole_day : CivilMoment → CivilMoment
whole_day m = record m { hour = 0; minute = 0; second = 0; fraction = 0 }
