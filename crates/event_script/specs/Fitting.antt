-- What the code makes of the numbers of a line `arrive`: those that the fields of a record take.
use Rattle.std.specs.Prelude.{ℕ, nat_le, if◌then◌else◌, List, Option, Some, None, option_and_then}
use Rattle.protocol.specs.Made.{Fields}
use Rattle.event_script.specs.Script.{Six, Start, decimal_of, fields_with, location_of, six_of, start_with}

-- a number that is not above the most
abbrev pub up_to : ℕ → ℕ → Option ℕ
up_to most n = if nat_le n most then Some n else None

-- the number of 16 bits that digits spell
abbrev pub short_of : List ℕ → Option ℕ
short_of digits = option_and_then (up_to 65535) (decimal_of digits)

-- the number of 8 bits that digits spell
abbrev pub byte_of : List ℕ → Option ℕ
byte_of digits = option_and_then (up_to 255) (decimal_of digits)

-- the start of six numbers that fit
abbrev pub fitting_start_in : Six → Option Start
fitting_start_in parts =
    start_with (short_of parts.first) (short_of parts.second) (byte_of parts.third) (byte_of parts.fourth)
    (byte_of parts.fifth) (short_of parts.sixth)

-- the start of a text whose numbers fit
abbrev pub fitting_start_of : List ℕ → Option Start
fitting_start_of text = option_and_then fitting_start_in (six_of 44 text)

-- the fields of words whose numbers fit
abbrev pub fitting_fields_in : Six → Option Fields
fitting_fields_in words =
    fields_with words.first words.second words.fourth (location_of words.third) (fitting_start_of words.fifth)
    (short_of words.sixth)
