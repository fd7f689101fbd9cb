-- The days of jiff's calendar are those of the definitions.
use Rattle.std.proofs.Common.{◌≡◌, ℕ, zero, suc, ◌+◌, ◌-◌, ◌≤◌, arith, refl, ℤ, pos, negsuc, ◌+ℤ◌, ◌≤ℤ◌, unsigned_abs}
use Rattle.std.proofs.Common.{add-one}
use Rattle.std.specs.Prelude.{if◌then◌else◌}
use Rattle.jiff_core.specs.Calendar.{days_in_year, days_in_month, days_of_months, day_count, days_from_civil}
use Rattle.jiff_core.proofs.CalendarLemmas.{day_count-epoch, day_count-next_year, day_count-day_of_year}
use Rattle.jiff_core.proofs.CalendarLemmas.{days_from_civil-day_count, days_of_months-zero, days_of_months_more}
use Rattle.jiff_core.proofs.SignedLemmas.{signed_arith}
use Rattle.protocol.specs.Time.{days_before, days_in, days_of_year_before, is_leap}
use Rattle.protocol.proofs.Years.{year_law}

-- the days of a year
year_days : (y : ℕ) → days_in_year (pos y) ≡ (if is_leap y then 366 else 365)
year_days y = refl

-- the days of a month
month_days : (y m : ℕ) → days_in_month (pos y) m ≡ days_in y m
month_days y m = refl

-- the days of the first n months
months : (y n : ℕ) → days_of_months (pos y) n ≡ days_of_year_before y (suc n)
months y zero = days_of_months-zero (pos y)
months y (suc n) = grind (arith, days_of_months_more (pos y) (suc n), months y n, month_days y (suc n))

-- the days before a year, from January 1 of the year 1
year_start : (k : ℕ) → day_count (pos (suc k)) 1 1 ≡ day_count (pos 1) 1 1 + days_before (suc k)
year_start zero = omega arith
year_start (suc k) =
    let next = day_count-next_year (pos (suc k)) (pos (suc (suc k))) (omega (arith, signed_arith))
    (omega (arith, signed_arith)) in
    let law = year_law (suc k) (omega arith) in
    omega (arith, next, law, year_start k, year_days (suc k), add-one (suc k))

-- the days of a year before a month
months_before : (y m : ℕ) → 1 ≤ m → days_of_months (pos y) (m - 1) ≡ days_of_year_before y m
months_before y zero h = absurd (omega arith)
months_before y (suc m) h = let back : suc m - 1 ≡ m = omega arith in rw back (months y m)

-- days from January 1 of the year 1 to a date, by those from -9999-01-01 to it
pub date_days : (z : ℤ) (m d r : ℕ) → pos 1 ≤ℤ z → 1 ≤ m → 1 ≤ d → days_from_civil z m d +ℤ pos 4371587 ≡ pos r
    → r ≡ 3652425 + (days_before (unsigned_abs z) + (days_of_year_before (unsigned_abs z) m + d - 1))
date_days (negsuc k) m d r hz hm hd is = absurd (omega (arith, signed_arith))
date_days (pos zero) m d r hz hm hd is = absurd (omega (arith, signed_arith))
date_days (pos (suc k)) m d r hz hm hd is =
    omega (
      arith,
      signed_arith,
      year_start k,
      year_start 1969,
      day_count-day_of_year (pos (suc k)) m d hd,
      days_from_civil-day_count (pos (suc k)) m d,
      months_before (suc k) m hm,
      day_count-epoch,
    )
