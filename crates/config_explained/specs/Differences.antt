-- Where two configurations differ first, in the order in which their keys are read, but for access lists.
use Rattle.std.specs.Prelude.{◌≡◌, ℕ, ◌+◌, ◌==◌, Bool, true, false, not, List, [], ◌∷◌, find, length, slice_get, Option}
use Rattle.std.specs.Prelude.{Some, None, option_map}
use Rattle.std.specs.Str.{bytes_eq}
use Rattle.protocol.specs.Catalog.{Config, Station, stations_of}
use Rattle.catalog.specs.declared.error.Step.{Step}
use Rattle.catalog.specs.declared.error.Step.TheVariants as step
use Rattle.catalog.specs.declared.settings.StationStep.{StationStep}
use Rattle.catalog.specs.Settings.{key_steps}
use Rattle.config_explained.specs.KeyTable.{setting_of}
use Rattle.config_explained.specs.SettingValues.{SettingValue, is_same_value, setting_value}
use Rattle.config_explained.specs.SettingValues.SettingValue.{nothing, text, number}
use Rattle.config_explained.specs.declared.difference.Difference.{Difference}

-- ---- values of keys

-- of a station that may not be there
abbrev pub setting_if : Option Station → StationStep → SettingValue
setting_if None key = nothing
setting_if (Some s) key = setting_of s key

-- the station at a place
abbrev pub station_at : Config → ℕ → Option Station
station_at config place = option_map (λ e. e.station) (slice_get config.entries place)

-- the value of the key that a step reads; of `station`, how many they are
abbrev pub setting_in : Config → Step → SettingValue
setting_in config step.Title = text config.title
setting_in config step.MaxConnections = number config.max_connections
setting_in config step.Stations = number (length config.entries)
setting_in config (step.Station place key) = setting_if (station_at config place) key
setting_in config _ = nothing

-- the station whose key a step reads
abbrev pub station_in : Config → Step → Option Station
station_in config (step.Station place key) = station_at config place
station_in config _ = None

-- its network and its code
abbrev pub network_in : Config → Step → Option (List ℕ)
network_in config s = option_map (λ station. station.network) (station_in config s)

abbrev pub code_in : Config → Step → Option (List ℕ)
code_in config s = option_map (λ station. station.code) (station_in config s)

-- ---- which key differs first

-- a key has another value
abbrev pub differs : Station → Station → StationStep → Bool
differs s t key = not (is_same_value (setting_of s key) (setting_of t key))

-- of two stations
abbrev pub differing_key : Station → Station → Option StationStep
differing_key s t = find (differs s t) key_steps

-- at a place, or else further on
abbrev pub step_or : ℕ → Option StationStep → Option Step → Option Step
step_or place None further = further
step_or place (Some key) further = Some (step.Station place key)

-- of two lists of stations from a place on; where one ends before the other, it is `station`
abbrev pub differing_among : ℕ → List Station → List Station → Option Step
differing_among place [] [] = None
differing_among place [] (t ∷ ts) = Some step.Stations
differing_among place (s ∷ ss) [] = Some step.Stations
differing_among place (s ∷ ss) (t ∷ ts) = step_or place (differing_key s t) (differing_among (place + 1) ss ts)

-- of the server's own keys that are the same or not, or else of the stations
abbrev pub step_by : Bool → Bool → Option Step → Option Step
step_by false connections stations = Some step.Title
step_by true false stations = Some step.MaxConnections
step_by true true stations = stations

-- of two configurations
abbrev pub differing_step : Config → Config → Option Step
differing_step config other =
    step_by (bytes_eq config.title other.title) (config.max_connections == other.max_connections)
    (differing_among 0 (stations_of config) (stations_of other))

-- ---- the difference

-- It is that of the first key that differs, with the values in force and in the file, and the codes in force.
pub record IsDifference (in_force in_file : Config) (d : Difference) : Type 0 where
  pub at : differing_step in_force in_file ≡ Some d.step
  pub old : setting_value d.in_force ≡ setting_in in_force d.step
  pub new : setting_value d.in_file ≡ setting_in in_file d.step
  pub network : option_map (λ t. t.items) d.network ≡ network_in in_force d.step
  pub code : option_map (λ t. t.items) d.code ≡ code_in in_force d.step

-- the difference, if there is one
abbrev pub IsFirstDifference : Config → Config → Option Difference → Type 0
IsFirstDifference in_force in_file None = differing_step in_force in_file ≡ None
IsFirstDifference in_force in_file (Some d) = IsDifference in_force in_file d
