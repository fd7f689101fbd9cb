-- The year, the month and the day of a day, found step by step.
use Rattle.std.proofs.Common.{◌≡◌, ℕ, ◌+◌, ◌-◌, ◌/◌, ◌<◌, ◌≤◌, zero, suc, arith, refl, sym, ap, ◌∙◌, leb-true, le-leb}
use Rattle.std.specs.Prelude.{Bool, true, false, if◌then◌else◌, nat_le}
use Rattle.protocol.specs.Time.{days_before, days_in, days_of_year_before, is_leap}
use Rattle.protocol.proofs.FoundLemmas.{both}
use Rattle.protocol.proofs.Years.{year_law, months_law}
use Rattle.sl_time.specs.Written.{MonthDay, date_of, month_day, month_from, year_by, year_of}

not_le : (a b : ℕ) → b < a → nat_le a b ≡ false
not_le a b h = both (nat_le a b) (λ y. let k : a ≤ b = leb-true a b y in absurd (omega arith)) (λ n. n)

more : (a b : ℕ) → nat_le a b ≡ false → b < a
more a b n = both (nat_le b a)
    (λ y. let k : b ≤ a = leb-true b a y in grind (arith, le-leb a b))
    (λ m. grind (arith, le-leb a b, le-leb b a))

-- ---- the year

pub years_rise : (y z : ℕ) → 1 ≤ y → y ≤ z → days_before y ≤ days_before z
years_rise y z some h = omega arith

pub year_stops : (year days : ℕ) → 1 ≤ year → days_before year ≤ days → year_by year days ≡ year
unfolding year_by
year_stops zero days h begun = absurd (omega arith)
year_stops (suc year) days h begun = rw (le-leb (days_before (suc year)) days begun) refl

pub year_falls : (year days : ℕ) → 1 ≤ year → days < days_before year → year_by year days ≡ year_by (year - 1) days
unfolding year_by
year_falls zero days h later = absurd (omega arith)
year_falls (suc year) days h later =
    let back : suc year - 1 ≡ year = omega arith in
    rw (not_le (days_before (suc year)) days later) (ap (λ y. year_by y days) (sym back))

pub year_begins : (days : ℕ) → year_of days ≡ year_by (days / 365 + 1) days
unfolding year_of
year_begins days = refl

year_found : (last year days : ℕ) → 1 ≤ year → year ≤ last → days_before year ≤ days → days < days_before (year + 1)
    → year_by last days ≡ year
unfolding year_by
year_found zero year days h within begun before = absurd (omega arith)
year_found (suc last) year days h within begun before =
    both (nat_le (days_before (suc last)) days)
    (λ y. let k : days_before (suc last) ≤ days = leb-true (days_before (suc last)) days y in rw y (omega arith))
    (λ n. let k : days < days_before (suc last) = more (days_before (suc last)) days n in
    rw n (year_found last year days h (omega arith) begun before))

-- the year of a day is the one in which it lies
pub year_is : (year days : ℕ) → 1 ≤ year → days_before year ≤ days → days < days_before (year + 1) → year_of days ≡ year
year_is year days h begun before =
    year_begins days ∙ year_found (days / 365 + 1) year days h (omega arith) begun before

-- ---- the month and the day

pub month_stops : (later year month left : ℕ) → left ≤ days_in year month
    → month_from later year month left ≡ month_day month left
unfolding month_from
month_stops zero year month left h = refl
month_stops (suc later) year month left h = rw (le-leb left (days_in year month) h) refl

pub month_ends : (year month left : ℕ) → 12 ≤ month → month_from (12 - month) year month left ≡ month_day month left
unfolding month_from
month_ends year month left h = let none : 12 - month ≡ zero = omega arith in rw none refl

month_goes : (later year month left : ℕ) → days_in year month < left
    → month_from (suc later) year month left ≡ month_from later year (month + 1) (left - days_in year month)
unfolding month_from
month_goes later year month left h = rw (not_le left (days_in year month) h) refl

pub month_steps : (year month left : ℕ) → month < 12 → days_in year month < left
    → month_from (12 - month) year month left
    ≡ month_from (12 - (month + 1)) year (month + 1) (left - days_in year month)
month_steps year month left early h =
    let one : 12 - month ≡ suc (12 - (month + 1)) = omega arith in
    ap (λ n. month_from n year month left) one ∙ month_goes (12 - (month + 1)) year month left h

-- So many months are passed.
months_pass : (k later year day : ℕ) → 1 ≤ day
    → month_from (k + later) year 1 (days_of_year_before year (suc k) + day) ≡ month_from later year (suc k) day
months_pass zero later year day h =
    let none : 0 + later ≡ later = omega arith in
    let left : 0 + day ≡ day = omega arith in
    rw (none, left) refl
months_pass (suc k) later year day h =
    let months : suc k + later ≡ k + suc later = omega arith in
    let days : days_of_year_before year (suc k) + days_in year (suc k) + day
    ≡ days_of_year_before year (suc k) + (days_in year (suc k) + day) = omega arith in
    let rest : days_in year (suc k) + day - days_in year (suc k) ≡ day = omega arith in
    let next : suc k + 1 ≡ suc (suc k) = omega arith in
    ap (λ n. month_from n year 1 (days_of_year_before year (suc k) + days_in year (suc k) + day)) months
    ∙ ap (λ d. month_from (k + suc later) year 1 d) days
    ∙ months_pass k (suc later) year (days_in year (suc k) + day) (omega arith)
    ∙ month_goes later year (suc k) (days_in year (suc k) + day) (omega arith)
    ∙ ap (λ d. month_from later year (suc k + 1) d) rest
    ∙ ap (λ m. month_from later year m day) next

-- the month and the day of a day of the year are those of which it is the day of the year
pub date_is : (year month day : ℕ) → 1 ≤ month → month ≤ 12 → 1 ≤ day → day ≤ days_in year month
    → date_of year (days_of_year_before year month + day) ≡ month_day month day
date_is year zero day h last first inside = absurd (omega arith)
date_is year (suc k) day h last first inside =
    let months : 11 ≡ k + (11 - k) = omega arith in
    ap (λ n. month_from n year 1 (days_of_year_before year (suc k) + day)) months
    ∙ months_pass k (11 - k) year day first
    ∙ month_stops (11 - k) year (suc k) day inside

months_rise : (j k year : ℕ) → days_of_year_before year (suc k) ≤ days_of_year_before year (suc (j + k))
months_rise zero k year = let none : 0 + k ≡ k = omega arith in rw none (omega arith)
months_rise (suc j) k year =
    let next : suc j + k ≡ suc (j + k) = omega arith in
    let rest = months_rise j k year in
    rw next (omega (arith, rest))

-- a day of a month is one of its year
pub day_inside : (year month day : ℕ) → 1 ≤ year → 1 ≤ month → month ≤ 12 → day ≤ days_in year month
    → days_before year + (days_of_year_before year month + day) ≤ days_before (year + 1)
day_inside year zero day some h last inside = absurd (omega arith)
day_inside year (suc k) day some h last inside =
    let rises = months_rise (11 - k) (suc k) year in
    let last_is : 11 - k + suc k ≡ 12 = omega arith in
    let to : days_of_year_before year (suc (suc k)) ≤ days_of_year_before year 13 = rw last_is at rises in
    let all = months_law year in
    let next = year_law year some in
    omega (arith, to, all, next)
