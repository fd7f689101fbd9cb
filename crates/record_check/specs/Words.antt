-- The words of a listing of records. The lines are this project's own.
use Rattle.std.specs.Prelude.{ℕ, ℤ, ◌&&◌, nat_le, ◌==◌, if◌then◌else◌, List, [], ◌∷◌, ◌++◌, decimal, map}
use Rattle.std.specs.Fmt.{signed_decimal}
use Rattle.protocol.specs.declared.record.Kind.{Kind}
use Rattle.protocol.specs.declared.record.Kind.TheVariants.{D, E, C, O, T, L}
use Rattle.sl_time.specs.Written.{moment_text, seconds_text}
use Rattle.record_check.specs.declared.options.Times.{Times}
use Rattle.record_check.specs.declared.options.Times.TheVariants.{Ticks, Iso}

-- a byte of a code: `?` stands for one that does not print, or is a space
abbrev pub shown_byte : ℕ → ℕ
shown_byte b = if nat_le 33 b && nat_le b 126 then b else 63

-- a byte of a location or channel, where `-` stands for a space
abbrev pub shown_place : ℕ → ℕ
shown_place b = if b == 32 then 45 else shown_byte b

-- the letter of a record's type
abbrev pub kind_letter : Kind → ℕ
kind_letter D = 68
kind_letter E = 69
kind_letter C = 67
kind_letter O = 79
kind_letter T = 84
kind_letter L = 76

-- a word and a space
abbrev pub word_text : List ℕ → List ℕ
word_text word = word ++ 32 ∷ []

-- a time, in ticks or as a date and a time of the day
abbrev pub time_text : Times → ℤ → List ℕ
time_text Ticks moment = signed_decimal moment
time_text Iso moment = moment_text moment

-- a length of time, in ticks or in seconds
abbrev pub duration_text : Times → ℕ → List ℕ
duration_text Ticks ticks = decimal ticks
duration_text Iso ticks = seconds_text ticks

-- network, station, location and channel, with a space behind each
abbrev pub stream_text : (network station location channel : List ℕ) → List ℕ
stream_text network station location channel =
    word_text (map shown_byte network) ++ word_text (map shown_byte station)
    ++ word_text (map shown_place location) ++ word_text (map shown_place channel)
