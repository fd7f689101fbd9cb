-- A moment of the command line, and the text of a command's time that stands for it.
-- ISO 8601, date and time in UTC, to the day, the minute or the second; SeedLink 3, the times of DATA, FETCH and TIME.
-- Left out: other zones, and fractions of other than four digits. A fraction is dropped, since commands have none.
use Rattle.std.specs.Prelude.{ℕ, Bool, ◌&&◌, ◌||◌, ◌==◌, ◌-◌, if◌then◌else◌, nat_le, List, length, map, take}
use Rattle.std.specs.Prelude.{slice_index}

-- as long as `2024-02-29T00:00Z`, `2024-02-29T00:00:00Z` or `2024-02-29T00:00:00.0000Z`
abbrev pub may_have_zone : List ℕ → Bool
may_have_zone word = (length word == 17) || (length word == 20) || (length word == 25)

-- a text without the `Z` (90) that may stand behind its date and time
abbrev pub without_zone : List ℕ → List ℕ
without_zone word =
    if may_have_zone word && (slice_index word (length word - 1) == 90) then take (length word - 1) word else word

-- a decimal digit
abbrev pub is_digit : ℕ → Bool
is_digit b = nat_le 48 b && nat_le b 57

-- The text ends with a point (46) and four digits behind its second.
abbrev pub has_fraction : List ℕ → Bool
has_fraction text =
    (length text == 24) && (slice_index text 19 == 46) && is_digit (slice_index text 20)
    && is_digit (slice_index text 21) && is_digit (slice_index text 22) && is_digit (slice_index text 23)

-- a text without that fraction
abbrev pub without_fraction : List ℕ → List ℕ
without_fraction text = if has_fraction text then take 19 text else text

-- the date and time of a word, without a fraction and a zone
unfoldable pub civil_part : List ℕ → List ℕ
civil_part word = without_fraction (without_zone word)

-- The text has the marks of `2024-02-29`: `-` is 45.
abbrev pub has_date : List ℕ → Bool
has_date text = (slice_index text 4 == 45) && (slice_index text 7 == 45)

-- It has those of `2024-02-29T00:00` behind its date: `T` is 84, `:` is 58.
abbrev pub has_minute : List ℕ → Bool
has_minute text = (slice_index text 10 == 84) && (slice_index text 13 == 58)

-- The text has the marks of `2024-02-29`, `2024-02-29T00:00` or `2024-02-29T00:00:00`.
unfoldable pub is_iso : List ℕ → Bool
is_iso text =
    if length text == 10 then has_date text
    else if length text == 16 then has_date text && has_minute text
    else (length text == 19) && has_date text && has_minute text && (slice_index text 16 == 58)

-- a comma (44) for each of these marks
abbrev pub with_comma : ℕ → ℕ
with_comma b = if (b == 45) || (b == 58) || (b == 84) then 44 else b

-- `2024,02,29,00,00,00` for `2024-02-29T00:00:00`, fewer numbers for a date alone or a time to the minute, all with or
-- without a `Z`, and any other word as it stands
abbrev pub command_text : List ℕ → List ℕ
command_text word = if is_iso (civil_part word) then map with_comma (civil_part word) else word
