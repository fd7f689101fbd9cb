-- What the text of a configuration says: the settings of a server, or the first step of the reading that fails. The
-- configuration is TOML; its table is that which the reader of TOML's own definition gives. Left out: other keys, which
-- are ignored.
use Rattle.std.specs.Prelude.{ℕ, Bool, ◌&&◌, nat_le, is_some, if◌then◌else◌, List, [], ◌∷◌, ◌++◌, length, Option, Some}
use Rattle.std.specs.Prelude.{None, Result, Ok, Err, codes}
use Rattle.std.specs.List.{list_all, list_any}
use Rattle.toml.specs.Data.{Data, Members, as_table}
use Rattle.protocol.specs.Catalog.{Config, Entry, Station, has_codes}
use Rattle.catalog.specs.Groups.{groups_of}
use Rattle.catalog.specs.Keys.{elements_at, table_in}
use Rattle.catalog.specs.Settings.{access_of, title_of, connections_of, network_of, code_of, settings_of}
use Rattle.catalog.specs.Steps.{◌>>=◌, within_if}
use Rattle.catalog.specs.declared.fault.ConfigFault.{ConfigFault}
use Rattle.catalog.specs.declared.fault.ConfigFault.TheVariants.{Toml, Missing, Duplicate}

-- ---- one station

-- a station's codes and its settings, key after key
unfoldable pub entry_of : Option Members → Members → Result Entry ConfigFault
entry_of groups members = do
  network ← network_of members
  code ← code_of members
  settings ← settings_of groups members
  Ok (record {
    station = record {
      network = network;
      code = code;
      description = settings.description;
      capacity = settings.capacity;
      first = settings.first;
    };
    access = settings.access;
  })

-- an earlier station has the same network and code
abbrev pub is_repeated : List Entry → Station → Bool
is_repeated earlier station = list_any (λ e. has_codes station.network station.code e.station) earlier

-- a station whose codes are not there yet
abbrev pub not_repeated : List Entry → Entry → Result Entry ConfigFault
not_repeated earlier e = if is_repeated earlier e.station then Err Duplicate else Ok e

-- the station that a value describes, behind earlier ones
unfoldable pub station_of : Option Members → List Entry → Data → Result Entry ConfigFault
station_of groups earlier d = do
  members ← table_in d
  e ← entry_of groups members
  not_repeated earlier e

-- ---- all of them

-- earlier stations, and those that values describe
abbrev pub stations_read : Option Members → List Entry → List Data → Result (List Entry) ConfigFault
stations_read groups earlier [] = Ok earlier
stations_read groups earlier (d ∷ ds) =
    station_of groups earlier d >>= (λ e. stations_read groups (earlier ++ e ∷ []) ds)

-- an element that is a table
abbrev pub is_table : Data → Bool
is_table d = is_some (as_table d)

-- an element that is no table counts as missing
abbrev pub tables_alone : List Data → Result (List Data) ConfigFault
tables_alone ds = if list_all is_table ds then Ok ds else Err Missing

-- 1 to 1,024 of them
abbrev pub is_few : ℕ → Bool
is_few count = nat_le 1 count && nat_le count 1024

-- `station`: an array of so many tables
unfoldable pub station_values : Members → Result (List Data) ConfigFault
station_values members = do
  values ← elements_at (codes "station") members
  tables ← tables_alone values
  within_if (is_few (length tables)) tables

-- the stations of a configuration's table
unfoldable pub stations_of : Members → Result (List Entry) ConfigFault
stations_of members = do
  values ← station_values members
  stations_read (groups_of members) [] values

-- ---- the whole

-- the settings of a server, key after key
unfoldable pub config_of : Members → Result Config ConfigFault
config_of members = do
  title ← title_of members
  access ← access_of (groups_of members) members
  connections ← connections_of members
  entries ← stations_of members
  Ok (record { title = title; max_connections = connections; access = access; entries = entries })

-- the settings that a text's table gives, where the text is read
abbrev pub config_read : Option Members → Result Config ConfigFault
config_read None = Err Toml
config_read (Some members) = config_of members
