-- The table of the configuration's keys: one list, from which comes what is known, what is allowed and what is explained.
use Rattle.std.specs.Prelude.{◌≡◌, ℕ, List, [], ◌∷◌, Option, Some, None, codes, Bool, true, ◌&&◌, is_some}
use Rattle.std.specs.List.{list_any}
use Rattle.std.specs.Str.{bytes_eq}
use Rattle.toml.specs.Data.{Data, Members, as_table, get_member}
use Rattle.protocol.specs.Catalog.{Station}
use Rattle.catalog.specs.Reading.{entry_of, config_of}
use Rattle.catalog.specs.declared.error.Step.{Step}
use Rattle.catalog.specs.declared.error.Step.TheVariants as step
use Rattle.catalog.specs.declared.settings.StationStep.{StationStep}
use Rattle.catalog.specs.declared.settings.StationStep.TheVariants as station
use Rattle.config_explained.specs.declared.key.Key.{Key}
use Rattle.config_explained.specs.declared.key.Key.TheVariants as key
use Rattle.config_explained.specs.SettingValues.{SettingValue}
use Rattle.config_explained.specs.Silences.{silence_in}
use Rattle.config_explained.specs.SettingValues.SettingValue.{nothing, text, number, sequence}
use Rattle.config_explained.specs.declared.kind.ValueKind.{ValueKind}
use Rattle.config_explained.specs.declared.kind.ValueKind.TheVariants as kind

-- ---- the table

-- what a list of addresses may be
abbrev pub list_limits : List ℕ
list_limits = codes "addresses and masks, separated by spaces and commas, as 10.0.0.7, 10.0.0.0/8"

-- A key's name, the kind of its value, what is allowed, and what holds without it. Without the last it is required.
pub record KeyRow : Type 0 where
  pub name : List ℕ
  pub kind : ValueKind
  pub limits : List ℕ
  pub missing : Option (List ℕ)

abbrev pub row_of : Key → KeyRow
row_of key.Title =
    record { name = codes "title"; kind = kind.Text; limits = codes "1 to 100 bytes of printable ASCII"; missing = None }
row_of key.ServerAccess =
    record {
      name = codes "access";
      kind = kind.Text;
      limits = list_limits;
      missing = Some (codes "everybody may use a station without a list of its own");
    }
row_of key.MaxConnections =
    record {
      name = codes "max_connections";
      kind = kind.WholeNumber;
      limits = codes "a whole number from 1 to 10000";
      missing = Some (codes "100");
    }
row_of key.Station =
    record { name = codes "station"; kind = kind.Tables; limits = codes "1 to 1024 tables"; missing = None }
row_of key.Network =
    record { name = codes "network"; kind = kind.Text; limits = codes "1 to 2 of A to Z and 0 to 9"; missing = None }
row_of key.Code =
    record { name = codes "code"; kind = kind.Text; limits = codes "1 to 5 of A to Z and 0 to 9"; missing = None }
row_of key.Description =
    record {
      name = codes "description";
      kind = kind.Text;
      limits = codes "at most 60 bytes of printable ASCII";
      missing = None;
    }
row_of key.Capacity =
    record {
      name = codes "capacity";
      kind = kind.WholeNumber;
      limits = codes "a whole number from 1 to 65536";
      missing = None;
    }
row_of key.First =
    record { name = codes "first"; kind = kind.Text; limits = codes "1 to 6 hexadecimal digits"; missing = Some (codes "0") }
row_of key.Access =
    record {
      name = codes "access";
      kind = kind.Text;
      limits = list_limits;
      missing = Some (codes "the list of the whole server holds");
    }
row_of key.Groups =
    record {
      name = codes "groups";
      kind = kind.Table;
      limits = codes "a table of texts, each an access list with a name";
      missing = Some (codes "an access list names no group");
    }
row_of key.Silent =
    record {
      name = codes "silent";
      kind = kind.WholeNumber;
      limits = codes "a whole number of seconds from 0 to 1000000000, where 0 is never";
      missing = Some (codes "the seconds of --silent");
    }

abbrev pub name_of : Key → List ℕ
name_of k = (row_of k).name

-- the keys of the whole server, and those of a station
abbrev pub server_keys : List Key
server_keys = key.Title ∷ key.ServerAccess ∷ key.MaxConnections ∷ key.Groups ∷ key.Station ∷ []

abbrev pub station_keys : List Key
station_keys =
    key.Network ∷ key.Code ∷ key.Description ∷ key.Capacity ∷ key.First ∷ key.Access ∷ key.Silent ∷ []

-- a text is the name of one of some keys
abbrev pub is_name_of : List Key → List ℕ → Bool
is_name_of keys word = list_any (λ k. bytes_eq word (name_of k)) keys

-- Whether a value is one that a key may have. Any value of a key that the reading takes is: the reading judges it.
abbrev pub may_be : Key → Data → Bool
may_be key.Groups d = is_some (as_table d)
may_be key.Silent d = is_some (silence_in d)
may_be _ d = true

-- a text is the name of one of some keys, and may have that value
abbrev pub is_key_of : List Key → List ℕ → Data → Bool
is_key_of keys word d = list_any (λ k. bytes_eq word (name_of k) && may_be k d) keys

-- ---- the steps of the reading

-- the key whose value a step of a station takes
abbrev pub station_key_at : StationStep → Option Key
station_key_at station.Table = None
station_key_at station.Network = Some key.Network
station_key_at station.Code = Some key.Code
station_key_at station.Description = Some key.Description
station_key_at station.Capacity = Some key.Capacity
station_key_at station.First = Some key.First
station_key_at station.Access = Some key.Access
station_key_at station.Codes = None

-- the key whose value a step takes
abbrev pub key_at : Step → Option Key
key_at step.Text = None
key_at step.Title = Some key.Title
key_at step.Access = Some key.ServerAccess
key_at step.MaxConnections = Some key.MaxConnections
key_at step.Stations = Some key.Station
key_at (step.Station place s) = station_key_at s

-- The step that takes a key. Groups are taken where an access list is, and how long a station may be silent is nothing
-- that the reading takes.
abbrev pub step_of : Key → Option Step
step_of key.Groups = None
step_of key.Silent = None
step_of key.Title = Some step.Title
step_of key.ServerAccess = Some step.Access
step_of key.MaxConnections = Some step.MaxConnections
step_of key.Station = Some step.Stations
step_of key.Network = Some (step.Station 0 station.Network)
step_of key.Code = Some (step.Station 0 station.Code)
step_of key.Description = Some (step.Station 0 station.Description)
step_of key.Capacity = Some (step.Station 0 station.Capacity)
step_of key.First = Some (step.Station 0 station.First)
step_of key.Access = Some (step.Station 0 station.Access)

-- ---- the values that a station has of them

-- the value of a key of a station; nothing of its list, which may change while a server runs
abbrev pub setting_of : Station → StationStep → SettingValue
setting_of s station.Network = text s.network
setting_of s station.Code = text s.code
setting_of s station.Description = text s.description
setting_of s station.Capacity = number s.capacity
setting_of s station.First = sequence s.first
setting_of s _ = nothing

-- ---- the table is that of the reading

-- two tables have the same values at the keys of a list
abbrev pub AreAlike : List Key → Members → Members → Type 0
AreAlike keys m m' = (word : List ℕ) → is_name_of keys word ≡ true → get_member word m ≡ get_member word m'

-- The reading takes no other key: tables that have the same at the keys of the list are read the same, whatever else
-- they have.
pub record ReadsTheTable : Type 0 where
  pub of_station : (groups : Option Members) (m m' : Members) → AreAlike station_keys m m' → entry_of groups m ≡ entry_of groups m'
  pub of_server : (m m' : Members) → AreAlike server_keys m m' → config_of m ≡ config_of m'
  -- and a step that takes a key of the list takes no other
  pub each : (k : Key) (s : Step) → step_of k ≡ Some s → key_at s ≡ Some k
