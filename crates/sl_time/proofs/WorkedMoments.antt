-- Worked moments of a command line.
use Rattle.std.specs.Prelude.{◌≡◌, refl, codes, None, pos, negsuc}
use Rattle.std.specs.Fmt.{signed_decimal}
use Rattle.protocol.specs.Time.{time_of}
use Rattle.sl_time.specs.Spelled.{civil_part, command_text, is_iso}
use Rattle.sl_time.specs.Written.{moment_text, month_from, year_by, year_of}

pub iso : command_text (codes "2024-02-29T00:00:01") ≡ codes "2024,02,29,00,00,01"
unfolding civil_part is_iso
iso = refl

pub zone : command_text (codes "2024-02-29T00:00:01Z") ≡ codes "2024,02,29,00,00,01"
unfolding civil_part is_iso
zone = refl

pub seedlink : command_text (codes "2024,2,29,0,0,1") ≡ codes "2024,2,29,0,0,1"
unfolding civil_part is_iso
seedlink = refl

pub same_moment : time_of (command_text (codes "2024-02-29T00:00:01Z")) ≡ time_of (codes "2024,2,29,0,0,1")
unfolding civil_part is_iso
same_moment = refl

pub no_such_date : time_of (command_text (codes "2023-02-29T00:00:00")) ≡ None
unfolding civil_part is_iso
no_such_date = refl

pub no_fraction : time_of (command_text (codes "2024-02-29T00:00:00.5")) ≡ None
unfolding civil_part is_iso
no_fraction = refl

pub no_letter : time_of (command_text (codes "2024-02-29T00:00:00.00A0Z")) ≡ None
unfolding civil_part is_iso
no_letter = refl

pub date_alone : command_text (codes "2024-02-29") ≡ codes "2024,02,29"
unfolding civil_part is_iso
date_alone = refl

pub to_the_minute : command_text (codes "2024-02-29T12:30") ≡ codes "2024,02,29,12,30"
unfolding civil_part is_iso
to_the_minute = refl

pub minute_and_zone : command_text (codes "2024-02-29T12:30Z") ≡ codes "2024,02,29,12,30"
unfolding civil_part is_iso
minute_and_zone = refl

pub as_listed : command_text (codes "2024-02-29T00:00:01.0900Z") ≡ codes "2024,02,29,00,00,01"
unfolding civil_part is_iso
as_listed = refl

pub hour_alone : time_of (command_text (codes "2024-02-29T12")) ≡ None
unfolding civil_part is_iso
hour_alone = refl

-- ---- what is written of a tick

pub leap_day : moment_text (pos 17091648000001) ≡ codes "2024-02-29T00:00:00.0001Z"
unfolding moment_text year_by year_of month_from
leap_day = refl

pub last_tick : moment_text (pos 17356895999999) ≡ codes "2024-12-31T23:59:59.9999Z"
unfolding moment_text year_by year_of month_from
last_tick = refl

pub beginning : moment_text (pos 0) ≡ codes "1970-01-01T00:00:00.0000Z"
unfolding moment_text year_by year_of month_from
beginning = refl

pub before_1970 : moment_text (negsuc 0) ≡ codes "1969-12-31T23:59:59.9999Z"
unfolding moment_text year_by year_of month_from
before_1970 = refl

pub first_year : moment_text (negsuc 621355967999999) ≡ codes "0001-01-01T00:00:00.0000Z"
unfolding moment_text year_by year_of month_from
first_year = refl

pub too_early : moment_text (negsuc 621355968000000) ≡ signed_decimal (negsuc 621355968000000)
unfolding moment_text
too_early = refl

pub last_year : moment_text (pos 2534023007999999) ≡ codes "9999-12-31T23:59:59.9999Z"
unfolding moment_text year_by year_of month_from
last_year = refl

pub too_late : moment_text (pos 2534023008000000) ≡ signed_decimal (pos 2534023008000000)
unfolding moment_text
too_late = refl
