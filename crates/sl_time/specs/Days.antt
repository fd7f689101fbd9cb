-- The day in which a moment lies, by its year and its place in the year.
use Rattle.std.specs.Prelude.{ℕ, ℤ, ◌+◌, ◌<◌, ◌≤◌, ◌≤ℤ◌, ◌<ℤ◌}
use Rattle.protocol.specs.Time.{days_before, tick}

-- the first tick of a day of a year, counted from 1
abbrev pub day_start : (year day : ℕ) → ℤ
day_start year day = tick year day 0 0 0 0

-- A moment lies in a day that the year has, the days counted from 1.
pub record IsWithinDay (year day : ℕ) (moment : ℤ) : Type 0 where
  pub years : 1 ≤ year
  pub first : 1 ≤ day
  pub inside : days_before year + day ≤ days_before (year + 1)
  pub from : day_start year day ≤ℤ moment
  pub before : moment <ℤ day_start year (day + 1)

-- days from January 1 of the year 1 to the day
pub record IsDayAt (year day days : ℕ) : Type 0 where
  pub years : 1 ≤ year
  pub below : year < 10000
  pub first : 1 ≤ day
  pub inside : days_before year + day ≤ days_before (year + 1)
  pub counted : days_before year + day ≤ days + 1
  pub reached : days + 1 ≤ days_before year + day
