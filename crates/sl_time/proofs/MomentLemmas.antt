-- What is written of a moment is its date and its time of the day.
use Rattle.std.proofs.Common.{◌≡◌, ℕ, ◌+◌, ◌-◌, ◌*◌, ◌/◌, ◌%◌, ◌<◌, ◌≤◌, arith, refl, sym, ap, ◌∙◌, List}
use Rattle.std.specs.Prelude.{ℤ, pos, ◌+ℤ◌, ◌-ℤ◌, Option, Some, None, if◌then◌else◌, nat_lt, option_map, true}
use Rattle.std.specs.Option.{option_map_or}
use Rattle.std.proofs.lemmas.Int.{ints}
use Rattle.std.proofs.lemmas.Bool.Decides.{nat_tests}
use Rattle.std.specs.Fmt.{signed_decimal}
use Rattle.protocol.specs.Time.{days_before, days_in, days_of_year_before, tick}
use Rattle.sl_time.specs.Written.{CivilMoment, MonthDay, civil_moment, counted, iso_text, moment_after, moment_on}
use Rattle.sl_time.specs.Written.{moment_text, on_date, date_of, year_of, ticks_since_year_1, month_day}
use Rattle.sl_time.specs.Moments.{IsMoment, moment_tick}
use Rattle.sl_time.proofs.DateLemmas.{date_is, day_inside, year_is, years_rise}

-- ---- the ticks

before : (a b : ℕ) → a < b → nat_lt a b ≡ true
before a b h = grind (arith, nat_tests, h)

back : (a k : ℕ) → (pos a -ℤ pos k) +ℤ pos k ≡ pos a
back a k = omega (arith, ints)

counts : (a : ℕ) → a < 864000000 * days_before 10000 → counted (pos a) ≡ Some a
counts a h = rw (before a (864000000 * days_before 10000) h) refl

since : (a : ℕ) → a < 864000000 * days_before 10000
    → ticks_since_year_1 (pos a -ℤ pos (864000000 * days_before 1970)) ≡ Some a
since a h = ap counted (back a (864000000 * days_before 1970)) ∙ counts a h

-- ---- the date and the time

time_is : (year month day hour minute second fraction : ℕ) → hour ≤ 23 → minute ≤ 59 → second ≤ 59 → fraction ≤ 9999
    → on_date year (month_day month day) (36000000 * hour + 600000 * minute + 10000 * second + fraction)
    ≡ record {
      year = year;
      month = month;
      day = day;
      hour = hour;
      minute = minute;
      second = second;
      fraction = fraction;
    }
time_is year month day hour minute second fraction h m s f =
    let ticks = 36000000 * hour + 600000 * minute + 10000 * second + fraction in
    let hours : ticks / 36000000 ≡ hour = omega arith in
    let minutes : ticks / 600000 % 60 ≡ minute = omega arith in
    let seconds : ticks / 10000 % 60 ≡ second = omega arith in
    let fractions : ticks % 10000 ≡ fraction = omega arith in
    rw (hours, minutes, seconds, fractions) refl

day_is : (year month day days ticks : ℕ) → 1 ≤ year → 1 ≤ month → month ≤ 12 → 1 ≤ day → day ≤ days_in year month
    → days ≡ days_before year + (days_of_year_before year month + day - 1)
    → moment_on days ticks ≡ on_date year (month_day month day) ticks
day_is year month day days ticks some first last from inside is =
    let within = day_inside year month day some first last inside in
    let year_found : year_of days ≡ year = year_is year days some (omega arith) (omega arith) in
    let day_found : days - days_before year + 1 ≡ days_of_year_before year month + day = omega arith in
    ap (λ y. on_date y (date_of y (days - days_before y + 1)) ticks) year_found
    ∙ ap (λ d. on_date year (date_of year d) ticks) day_found
    ∙ ap (λ d. on_date year d ticks) (date_is year month day first last from inside)

moment_is : (days ticks : ℕ) → ticks < 864000000 → moment_after (864000000 * days + ticks) ≡ moment_on days ticks
moment_is days ticks h =
    let whole : (864000000 * days + ticks) / 864000000 ≡ days = omega arith in
    let rest : (864000000 * days + ticks) % 864000000 ≡ ticks = omega arith in
    rw (whole, rest) refl

day_early : (m : CivilMoment) → IsMoment m
    → days_before m.year + (days_of_year_before m.year m.month + m.day) ≤ days_before (m.year + 1)
    → days_before m.year + (days_of_year_before m.year m.month + m.day - 1) < 3652059
day_early m is inside =
    let years = is.last_year in
    let first = is.days in
    let rise : days_before (m.year + 1) ≤ days_before 10000 = years_rise (m.year + 1) 10000 (omega arith) (omega arith)
    in omega (arith, inside, rise)

is_early : (days hour minute second fraction : ℕ) → days < 3652059
    → 36000000 * hour + 600000 * minute + 10000 * second + fraction < 864000000
    → 864000000 * days + 36000000 * hour + 600000 * minute + 10000 * second + fraction < 864000000 * days_before 10000
is_early days hour minute second fraction early within = omega arith

-- each date and time of the day is written as it stands
pub spelled : (m : CivilMoment) → IsMoment m → moment_text (moment_tick m) ≡ iso_text m
unfolding moment_text
spelled m is =
    let days = days_before m.year + (days_of_year_before m.year m.month + m.day - 1) in
    let ticks = 36000000 * m.hour + 600000 * m.minute + 10000 * m.second + m.fraction in
    let all = 864000000 * days + 36000000 * m.hour + 600000 * m.minute + 10000 * m.second + m.fraction in
    let parts : all ≡ 864000000 * days + ticks = omega arith in
    let inside = day_inside m.year m.month m.day is.years is.months is.last_month is.last_day in
    let within : ticks < 864000000 = omega (arith, is.hours, is.minutes, is.seconds, is.fractions) in
    let early = is_early days m.hour m.minute m.second m.fraction (day_early m is inside) within in
    ap (λ n. option_map_or iso_text (option_map moment_after n) (signed_decimal (moment_tick m))) (since all early)
    ∙ ap (λ n. iso_text (moment_after n)) parts
    ∙ ap iso_text (moment_is days ticks within
    ∙ day_is m.year m.month m.day days ticks is.years is.months is.last_month is.days is.last_day refl
    ∙ time_is m.year m.month m.day m.hour m.minute m.second m.fraction is.hours is.minutes is.seconds is.fractions)
