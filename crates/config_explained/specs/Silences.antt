-- How long a station may be silent before its operator is told. This project's own; clients see nothing of it.
use Rattle.std.specs.Prelude.{ℕ, zero, suc, ◌+◌, nat_le, ℤ, pos, negsuc}
use Rattle.std.specs.Prelude.{if◌then◌else◌, List, [], ◌∷◌, Option, Some, None}
use Rattle.std.specs.Prelude.{option_and_then, codes}
use Rattle.toml.specs.Data.{Data, Members, as_integer, get_member}
use Rattle.protocol.specs.Catalog.{Station}
use Rattle.config_explained.specs.Tables.{station_table}
use Rattle.config_explained.specs.declared.silence.Silence.{Silence}
use Rattle.config_explained.specs.declared.silence.Silence.TheVariants.{AsServer, Never, After}

-- a number of seconds, 0 to 1,000,000,000
abbrev pub seconds_of : ℤ → Option ℕ
seconds_of (pos n) = if nat_le n 1000000000 then Some n else None
seconds_of (negsuc n) = None

-- the seconds that a value is
abbrev pub silence_in : Data → Option ℕ
silence_in d = option_and_then seconds_of (as_integer d)

-- 0 is never, and without a number the server's own seconds count
abbrev pub silence_by : Option ℕ → Silence
silence_by None = AsServer
silence_by (Some zero) = Never
silence_by (Some (suc n)) = After (suc n)

-- of a station's table, if there is one
abbrev pub silence_of : Option Members → Silence
silence_of None = AsServer
silence_of (Some members) = silence_by (option_and_then silence_in (get_member (codes "silent") members))

-- those of the stations from a place on
abbrev pub silences_from : Members → ℕ → List Station → List Silence
silences_from keys place [] = []
silences_from keys place (s ∷ ss) = silence_of (station_table keys place) ∷ silences_from keys (place + 1) ss

-- those of all stations
abbrev pub silences : Members → List Station → List Silence
silences keys ss = silences_from keys 0 ss
