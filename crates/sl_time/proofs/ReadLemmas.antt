-- What is written of a moment to the second is read back.
use Rattle.std.proofs.Common.{◌≡◌, ℕ, ◌+◌, ◌-◌, ◌*◌, ◌/◌, ◌%◌, ◌<◌, ◌≤◌, ◌==◌, arith, refl, sym, ap, ◌∙◌}
use Rattle.std.proofs.Common.{List, [], ◌∷◌, ◌++◌, take}
use Rattle.std.proofs.Common.{Some, true, false, le-leb}
use Rattle.std.specs.Prelude.{Bool, if◌then◌else◌, nat_le, ◌&&◌, ◌||◌, option_and_then}
use Rattle.std.proofs.lemmas.Bool.{ne_eqb}
use Rattle.std.proofs.lemmas.Bool.Decides.{nat_tests}
use Rattle.protocol.specs.Pieces.{split}
use Rattle.protocol.specs.Time.{civil, civil_of, civil_of_parts, civil_tick, days_in, decimal_digit, digits_between}
use Rattle.protocol.specs.Time.{is_civil, is_leap, time_of}
use Rattle.protocol.proofs.FoundLemmas.{both}
use Rattle.sl_time.specs.Written.{CivilMoment, digit, four_digits, iso_text, two_digits}
use Rattle.sl_time.specs.Spelled.{civil_part, command_text, is_digit, is_iso, with_comma}
use Rattle.sl_time.specs.Moments.{IsMoment, moment_tick, whole_day, whole_minute, whole_second}

-- ---- digits

other : (unit n byte : ℕ) → byte < 48 → (digit unit n == byte) ≡ false
other unit n byte h = ne_eqb (digit unit n) byte (λ e. omega arith)

above : (unit n byte : ℕ) → 57 < byte → (digit unit n == byte) ≡ false
above unit n byte h = ne_eqb (digit unit n) byte (λ e. omega arith)

digit_stays : (unit n : ℕ) → with_comma (digit unit n) ≡ digit unit n
digit_stays unit n =
    rw (other unit n 45 (omega arith), above unit n 58 (omega arith), above unit n 84 (omega arith)) refl

digit_read : (unit n : ℕ) → decimal_digit (digit unit n) ≡ Some (n / unit % 10)
digit_read unit n =
    let low = le-leb 48 (digit unit n) (omega arith) in
    let high = le-leb (digit unit n) 57 (omega arith) in
    let value : digit unit n - 48 ≡ n / unit % 10 = omega arith in
    rw (low, high, value) refl

two_read : (n : ℕ) → n < 100 → digits_between 1 2 (two_digits n) ≡ Some n
two_read n h =
    let value : 10 * (10 * 0 + n / 10 % 10) + n / 1 % 10 ≡ n = omega arith in
    rw (digit_read 10 n, digit_read 1 n) (ap Some value)

four_read : (n : ℕ) → n < 10000 → digits_between 4 4 (four_digits n) ≡ Some n
four_read n h =
    let value : 10 * (10 * (10 * (10 * 0 + n / 1000 % 10) + n / 100 % 10) + n / 10 % 10) + n / 1 % 10 ≡ n = omega arith
    in rw (digit_read 1000 n, digit_read 100 n, digit_read 10 n, digit_read 1 n) (ap Some value)

-- ---- parts

two_cut : (n : ℕ) (rest : List ℕ) → split (λ b. b == 44) (digit 10 n ∷ digit 1 n ∷ 44 ∷ rest)
    ≡ two_digits n ∷ split (λ b. b == 44) rest
two_cut n rest = rw (other 10 n 44 (omega arith), other 1 n 44 (omega arith)) refl

last_cut : (n : ℕ) → split (λ b. b == 44) (two_digits n) ≡ two_digits n ∷ []
last_cut n = rw (other 10 n 44 (omega arith), other 1 n 44 (omega arith)) refl

four_cut : (n : ℕ) (rest : List ℕ)
    → split (λ b. b == 44) (digit 1000 n ∷ digit 100 n ∷ digit 10 n ∷ digit 1 n ∷ 44 ∷ rest)
    ≡ four_digits n ∷ split (λ b. b == 44) rest
four_cut n rest =
    rw (
      other 1000 n 44 (omega arith),
      other 100 n 44 (omega arith),
      other 10 n 44 (omega arith),
      other 1 n 44 (omega arith),
    ) refl

-- the text of a command's time of these numbers
abbrev command_of : CivilMoment → List ℕ
command_of m =
    four_digits m.year ++ 44 ∷ two_digits m.month ++ 44 ∷ two_digits m.day ++ 44 ∷ two_digits m.hour
    ++ 44 ∷ two_digits m.minute ++ 44 ∷ two_digits m.second

command_is : (m : CivilMoment) → command_text (take 19 (iso_text m)) ≡ command_of m
unfolding civil_part is_iso
command_is m =
    rw (
      digit_stays 1000 m.year,
      digit_stays 100 m.year,
      digit_stays 10 m.year,
      digit_stays 1 m.year,
      digit_stays 10 m.month,
      digit_stays 1 m.month,
      digit_stays 10 m.day,
      digit_stays 1 m.day,
      digit_stays 10 m.hour,
      digit_stays 1 m.hour,
      digit_stays 10 m.minute,
      digit_stays 1 m.minute,
      digit_stays 10 m.second,
      digit_stays 1 m.second,
    ) refl

-- What is written whole has the same text: its zone and its fraction are dropped.
digit_is : (unit n : ℕ) → is_digit (digit unit n) ≡ true
digit_is unit n = rw (le-leb 48 (digit unit n) (omega arith), le-leb (digit unit n) 57 (omega arith)) refl

whole_command : (m : CivilMoment) → command_text (iso_text m) ≡ command_text (take 19 (iso_text m))
unfolding civil_part is_iso
whole_command m =
    rw (digit_is 1000 m.fraction, digit_is 100 m.fraction, digit_is 10 m.fraction, digit_is 1 m.fraction) refl

parts_are : (m : CivilMoment) → split (λ b. b == 44) (command_of m)
    ≡ four_digits m.year ∷ two_digits m.month ∷ two_digits m.day ∷ two_digits m.hour ∷ two_digits m.minute
    ∷ two_digits m.second ∷ []
parts_are m =
    let second = two_digits m.second in
    let minute = digit 10 m.minute ∷ digit 1 m.minute ∷ 44 ∷ second in
    let hour = digit 10 m.hour ∷ digit 1 m.hour ∷ 44 ∷ minute in
    let day = digit 10 m.day ∷ digit 1 m.day ∷ 44 ∷ hour in
    let month = digit 10 m.month ∷ digit 1 m.month ∷ 44 ∷ day in
    four_cut m.year month ∙ ap (λ ps. four_digits m.year ∷ ps)
    (two_cut m.month day ∙ ap (λ ps. two_digits m.month ∷ ps)
    (two_cut m.day hour ∙ ap (λ ps. two_digits m.day ∷ ps)
    (two_cut m.hour minute ∙ ap (λ ps. two_digits m.hour ∷ ps)
    (two_cut m.minute second ∙ ap (λ ps. two_digits m.minute ∷ ps) (last_cut m.second)))))

civil_is : (m : CivilMoment) → m.year < 10000 → m.month < 100 → m.day < 100 → m.hour < 100 → m.minute < 100
    → m.second < 100 → civil_of (command_of m) ≡ Some (civil m.year m.month m.day m.hour m.minute m.second)
civil_is m y mo d h mi s =
    ap civil_of_parts (parts_are m)
    ∙ rw (
      four_read m.year y,
      two_read m.month mo,
      two_read m.day d,
      two_read m.hour h,
      two_read m.minute mi,
      two_read m.second s,
    ) refl

civil_inside : (m : CivilMoment) → IsMoment m → 1900 ≤ m.year → m.year ≤ 2100
    → is_civil (civil m.year m.month m.day m.hour m.minute m.second) ≡ true
civil_inside m is from to =
    rw (
      le-leb 1900 m.year from,
      le-leb m.year 2100 to,
      le-leb 1 m.month is.months,
      le-leb m.month 12 is.last_month,
      le-leb 1 m.day is.days,
      le-leb m.day (days_in m.year m.month) is.last_day,
      le-leb m.hour 23 is.hours,
      le-leb m.minute 59 is.minutes,
      le-leb m.second 60 (omega (arith, is.seconds)),
    ) refl

month_short : (year month : ℕ) → days_in year month ≤ 31
month_short year month =
    both (month == 2)
    (λ e. rw e (both (is_leap year) (λ l. rw l (omega arith)) (λ l. rw l (omega arith))))
    (λ e. rw e (both (month == 4 || month == 6 || month == 9 || month == 11) (λ l. rw l (omega arith))
    (λ l. rw l (omega arith))))

pub read_back : (m : CivilMoment) → IsMoment m → 1900 ≤ m.year → m.year ≤ 2100
    → time_of (command_text (take 19 (iso_text m))) ≡ Some (moment_tick (whole_second m))
read_back m is from to =
    let months = is.last_month in
    let month : days_in m.year m.month ≤ 31 = month_short m.year m.month in
    let last = is.last_day in
    let day : m.day ≤ 31 = omega arith in
    ap time_of (command_is m)
    ∙ ap (option_and_then civil_tick) (civil_is m (omega arith) (omega arith) (omega arith)
    (omega (arith, is.hours)) (omega (arith, is.minutes)) (omega (arith, is.seconds)))
    ∙ rw (civil_inside m is from to) refl

pub all_read_back : (m : CivilMoment) → IsMoment m → 1900 ≤ m.year → m.year ≤ 2100
    → time_of (command_text (iso_text m)) ≡ Some (moment_tick (whole_second m))
all_read_back m is from to = ap time_of (whole_command m) ∙ read_back m is from to

-- ---- to the minute, and to the day

abbrev minute_of : CivilMoment → List ℕ
minute_of m =
    four_digits m.year ++ 44 ∷ two_digits m.month ++ 44 ∷ two_digits m.day ++ 44 ∷ two_digits m.hour
    ++ 44 ∷ two_digits m.minute

minute_is : (m : CivilMoment) → command_text (take 16 (iso_text m)) ≡ minute_of m
unfolding civil_part is_iso
minute_is m =
    rw (
      digit_stays 1000 m.year,
      digit_stays 100 m.year,
      digit_stays 10 m.year,
      digit_stays 1 m.year,
      digit_stays 10 m.month,
      digit_stays 1 m.month,
      digit_stays 10 m.day,
      digit_stays 1 m.day,
      digit_stays 10 m.hour,
      digit_stays 1 m.hour,
      digit_stays 10 m.minute,
      digit_stays 1 m.minute,
    ) refl

minute_parts : (m : CivilMoment) → split (λ b. b == 44) (minute_of m)
    ≡ four_digits m.year ∷ two_digits m.month ∷ two_digits m.day ∷ two_digits m.hour ∷ two_digits m.minute ∷ []
minute_parts m =
    let minute = two_digits m.minute in
    let hour = digit 10 m.hour ∷ digit 1 m.hour ∷ 44 ∷ minute in
    let day = digit 10 m.day ∷ digit 1 m.day ∷ 44 ∷ hour in
    let month = digit 10 m.month ∷ digit 1 m.month ∷ 44 ∷ day in
    four_cut m.year month ∙ ap (λ ps. four_digits m.year ∷ ps)
    (two_cut m.month day ∙ ap (λ ps. two_digits m.month ∷ ps)
    (two_cut m.day hour ∙ ap (λ ps. two_digits m.day ∷ ps)
    (two_cut m.hour minute ∙ ap (λ ps. two_digits m.hour ∷ ps) (last_cut m.minute))))

minute_civil : (m : CivilMoment) → m.year < 10000 → m.month < 100 → m.day < 100 → m.hour < 100 → m.minute < 100
    → civil_of (minute_of m) ≡ Some (civil m.year m.month m.day m.hour m.minute 0)
minute_civil m y mo d h mi =
    ap civil_of_parts (minute_parts m)
    ∙ rw (four_read m.year y, two_read m.month mo, two_read m.day d, two_read m.hour h, two_read m.minute mi) refl

at_minute : (m : CivilMoment) → IsMoment m → IsMoment (whole_minute m)
at_minute m is =
    record {
      years = is.years;
      last_year = is.last_year;
      months = is.months;
      last_month = is.last_month;
      days = is.days;
      last_day = is.last_day;
      hours = is.hours;
      minutes = is.minutes;
      seconds = omega arith;
      fractions = omega arith;
    }

pub minute_read_back : (m : CivilMoment) → IsMoment m → 1900 ≤ m.year → m.year ≤ 2100
    → time_of (command_text (take 16 (iso_text m))) ≡ Some (moment_tick (whole_minute m))
minute_read_back m is from to =
    let months = is.last_month in
    let month : days_in m.year m.month ≤ 31 = month_short m.year m.month in
    let last = is.last_day in
    let day : m.day ≤ 31 = omega arith in
    ap time_of (minute_is m)
    ∙ ap (option_and_then civil_tick) (minute_civil m (omega arith) (omega arith) (omega arith)
    (omega (arith, is.hours)) (omega (arith, is.minutes)))
    ∙ rw (civil_inside (whole_minute m) (at_minute m is) from to) refl

abbrev day_of : CivilMoment → List ℕ
day_of m = four_digits m.year ++ 44 ∷ two_digits m.month ++ 44 ∷ two_digits m.day

day_is : (m : CivilMoment) → command_text (take 10 (iso_text m)) ≡ day_of m
unfolding civil_part is_iso
day_is m =
    rw (
      digit_stays 1000 m.year,
      digit_stays 100 m.year,
      digit_stays 10 m.year,
      digit_stays 1 m.year,
      digit_stays 10 m.month,
      digit_stays 1 m.month,
      digit_stays 10 m.day,
      digit_stays 1 m.day,
    ) refl

day_parts : (m : CivilMoment) → split (λ b. b == 44) (day_of m)
    ≡ four_digits m.year ∷ two_digits m.month ∷ two_digits m.day ∷ []
day_parts m =
    let day = two_digits m.day in
    let month = digit 10 m.month ∷ digit 1 m.month ∷ 44 ∷ day in
    four_cut m.year month ∙ ap (λ ps. four_digits m.year ∷ ps)
    (two_cut m.month day ∙ ap (λ ps. two_digits m.month ∷ ps) (last_cut m.day))

day_civil : (m : CivilMoment) → m.year < 10000 → m.month < 100 → m.day < 100
    → civil_of (day_of m) ≡ Some (civil m.year m.month m.day 0 0 0)
day_civil m y mo d =
    ap civil_of_parts (day_parts m) ∙ rw (four_read m.year y, two_read m.month mo, two_read m.day d) refl

at_day : (m : CivilMoment) → IsMoment m → IsMoment (whole_day m)
at_day m is =
    record {
      years = is.years;
      last_year = is.last_year;
      months = is.months;
      last_month = is.last_month;
      days = is.days;
      last_day = is.last_day;
      hours = omega arith;
      minutes = omega arith;
      seconds = omega arith;
      fractions = omega arith;
    }

pub day_read_back : (m : CivilMoment) → IsMoment m → 1900 ≤ m.year → m.year ≤ 2100
    → time_of (command_text (take 10 (iso_text m))) ≡ Some (moment_tick (whole_day m))
day_read_back m is from to =
    let months = is.last_month in
    let month : days_in m.year m.month ≤ 31 = month_short m.year m.month in
    let last = is.last_day in
    let day : m.day ≤ 31 = omega arith in
    ap time_of (day_is m)
    ∙ ap (option_and_then civil_tick) (day_civil m (omega arith) (omega arith) (omega arith))
    ∙ rw (civil_inside (whole_day m) (at_day m is) from to) refl
