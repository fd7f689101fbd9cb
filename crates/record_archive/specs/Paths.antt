-- The place of a record in an archive, by the day in which the record starts: the SeisComP Data Structure,
-- YEAR/NET/STA/CHA.TYPE/NET.STA.LOC.CHA.TYPE.YEAR.DAY. LOC may be empty.
use Rattle.std.specs.Prelude.{ℕ, ◌+◌, ◌/◌, ◌%◌, Bool, true, false, ◌&&◌, not, ◌==◌, nat_lt, List, [], ◌∷◌, ◌++◌}
use Rattle.std.specs.List.{list_all}
use Rattle.protocol.specs.Record.{Facts, trimmed}
use Rattle.record_check.specs.Listing.{kind_letter}

-- a byte that prints, but `/`
abbrev pub is_name_byte : ℕ → Bool
is_name_byte b = nat_lt 32 b && nat_lt b 127 && not (b == 47)

-- nothing, `.` or `..`
abbrev pub is_reserved : List ℕ → Bool
is_reserved [] = true
is_reserved (a ∷ []) = a == 46
is_reserved (a ∷ b ∷ []) = a == 46 && b == 46
is_reserved (a ∷ b ∷ c ∷ bs) = false

-- a code that can be the name of a folder
abbrev pub is_name : List ℕ → Bool
is_name code = not (is_reserved code) && list_all is_name_byte code

-- A record with these codes has a place in an archive.
abbrev pub has_place : Facts → Bool
has_place x =
    is_name x.network && is_name x.station && list_all is_name_byte (trimmed x.location) && is_name (trimmed x.channel)

-- a digit, by the last decimal digit of a number
abbrev pub last_digit : ℕ → ℕ
last_digit n = 48 + n % 10

-- the last three decimal digits of a number
abbrev pub three_digits : ℕ → List ℕ
three_digits n = last_digit (n / 100) ∷ last_digit (n / 10) ∷ last_digit n ∷ []

-- the last four
abbrev pub four_digits : ℕ → List ℕ
four_digits n = last_digit (n / 1000) ∷ three_digits n

-- a text, and a separator after it
abbrev pub with_mark : List ℕ → ℕ → List ℕ
with_mark text mark = text ++ mark ∷ []

-- the channel and the type, as a folder has them
abbrev pub channel_text : Facts → List ℕ
channel_text x = with_mark (trimmed x.channel) 46 ++ kind_letter x.kind ∷ []

-- the folder of a year's records of a stream
abbrev pub folder_text : ℕ → Facts → List ℕ
folder_text year x =
    with_mark (four_digits year) 47 ++ (with_mark x.network 47 ++ (with_mark x.station 47 ++ channel_text x))

-- the codes and the type, each with a dot
abbrev pub codes_text : Facts → List ℕ
codes_text x =
    with_mark x.network 46 ++ (with_mark x.station 46 ++ (with_mark (trimmed x.location) 46 ++
    with_mark (channel_text x) 46))

-- the name of a day's file in it
abbrev pub file_text : (year day : ℕ) → Facts → List ℕ
file_text year day x = codes_text x ++ (with_mark (four_digits year) 46 ++ three_digits day)
