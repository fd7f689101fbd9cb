-- Where records begin in bytes of which some are in no record.
-- SEED Reference Manual 2.4, chapter 8, for what a record is; the rule is this project's own.
use Rattle.std.specs.Prelude.{ℕ, Bool, ◌&&◌, ◌||◌, List, length, take, drop, is_ok, nat_le, nat_lt}
use Rattle.protocol.specs.Record.{header_of}

-- bytes begin with a record that can be read
abbrev pub is_record : List ℕ → Bool
is_record bytes = nat_le 512 (length bytes) && is_ok (header_of (take 512 bytes))

-- what follows the first 512 bytes begins with such a record, or is less than a record
abbrev pub is_followed : List ℕ → Bool
is_followed bytes = nat_lt (length bytes) 1024 || is_record (drop 512 bytes)

-- a record begins there: it can be read, and so can what follows it, unless that is less than a record
abbrev pub begins : List ℕ → Bool
begins bytes = is_record bytes && is_followed bytes
