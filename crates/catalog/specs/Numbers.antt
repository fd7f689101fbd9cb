-- Numbers that are kept for stations from one run of a server to the next: each stands for its station's first one.
-- Left out: where they are kept.
use Rattle.std.specs.Prelude.{ℕ, List, find, map}
use Rattle.std.specs.Option.{option_map_or}
use Rattle.protocol.specs.Catalog.{Config, Entry, Station, has_codes}

-- a number that is kept for the station with these codes
pub record Numbered : Type 0 where
  pub network : List ℕ
  pub code : List ℕ
  pub next : ℕ

-- the first number of a station: the first that is kept for its codes, or else its own
abbrev pub first_by : List Numbered → Station → ℕ
first_by kept s = option_map_or (λ n. n.next) (find (λ n. has_codes n.network n.code s) kept) s.first

-- a station that begins with it
abbrev pub entry_by : List Numbered → Entry → Entry
entry_by kept e = record e { station = record e.station { first = first_by kept e.station } }

-- a configuration whose stations do
abbrev pub config_by : List Numbered → Config → Config
config_by kept config = record config { entries = map (entry_by kept) config.entries }

-- a station's number, as it is kept
abbrev pub numbered : Entry → Numbered
numbered e = record { network = e.station.network; code = e.station.code; next = e.station.first }
