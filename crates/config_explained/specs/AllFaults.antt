-- All faults of a configuration's table: each step of its reading that fails, also behind the first.
use Rattle.std.specs.Prelude.{ℕ, ◌+◌, ◌&&◌, Bool, true, false, if◌then◌else◌, List, [], ◌∷◌, ◌++◌, flat_map, codes}
use Rattle.std.specs.Prelude.{Option, Some, None, option_and_then, option_map, Result, Ok, Err}
use Rattle.std.specs.List.{list_any}
use Rattle.std.specs.Result.{result_err, result_ok}
use Rattle.std.specs.Str.{bytes_eq}
use Rattle.toml.specs.Data.{Data, Members, as_str, get_member}
use Rattle.catalog.specs.Groups.{groups_of}
use Rattle.catalog.specs.Keys.{elements_at, table_in}
use Rattle.catalog.specs.Reading.{station_values}
use Rattle.catalog.specs.Settings.{access_of, code_of, connections_of, key_fault, key_steps, network_of, title_of}
use Rattle.catalog.specs.declared.error.ConfigError.{ConfigError}
use Rattle.catalog.specs.declared.error.Step.{Step}
use Rattle.catalog.specs.declared.error.Step.TheVariants as step
use Rattle.catalog.specs.declared.fault.ConfigFault.{ConfigFault}
use Rattle.catalog.specs.declared.fault.ConfigFault.TheVariants.{Duplicate}
use Rattle.catalog.specs.declared.settings.StationStep.{StationStep}
use Rattle.catalog.specs.declared.settings.StationStep.TheVariants as station

-- a step that fails and why, with the network and the code of its station, if these are valid
pub record FoundFault : Type 0 where
  pub step : Step
  pub fault : ConfigFault
  pub network : Option (List ℕ)
  pub code : Option (List ℕ)

-- the same of the code
abbrev pub found_fault : ConfigError → FoundFault
found_fault e =
    record {
      step = e.step;
      fault = e.fault;
      network = option_map (λ t. t.items) e.network;
      code = option_map (λ t. t.items) e.code;
    }

-- ---- the server's own keys

-- a step of the server, if it fails
abbrev pub server_told : Step → Option ConfigFault → List FoundFault
server_told s None = []
server_told s (Some fault) = record { step = s; fault = fault; network = None; code = None } ∷ []

abbrev pub server_faults : Members → List FoundFault
server_faults m =
    server_told step.Title (result_err (title_of m)) ++ server_told step.Access (result_err (access_of (groups_of m) m))
    ++ server_told step.MaxConnections (result_err (connections_of m))
    ++ server_told step.Stations (result_err (station_values m))

-- ---- one station

-- a step of the station at a place, if it fails
abbrev pub station_told : ℕ → Members → StationStep → Option ConfigFault → List FoundFault
station_told place m s None = []
station_told place m s (Some fault) =
    record {
      step = step.Station place s;
      fault = fault;
      network = result_ok (network_of m);
      code = result_ok (code_of m);
    } ∷ []

-- the key of a step
abbrev pub key_told : Option Members → ℕ → Members → StationStep → List FoundFault
key_told groups place m s = station_told place m s (key_fault groups m s)

-- two tables have the same texts at a key
abbrev pub is_same_if : Option (List ℕ) → Option (List ℕ) → Bool
is_same_if (Some text) (Some other) = bytes_eq text other
is_same_if _ _ = false

abbrev pub name_at : List ℕ → Members → Option (List ℕ)
name_at key m = option_and_then as_str (get_member key m)

-- the same network and code
abbrev pub has_same_codes : Members → Members → Bool
has_same_codes m m' =
    is_same_if (name_at (codes "network") m) (name_at (codes "network") m')
    && is_same_if (name_at (codes "code") m) (name_at (codes "code") m')

abbrev pub is_same_station_in : Members → Result Members ConfigFault → Bool
is_same_station_in m (Err fault) = false
is_same_station_in m (Ok m') = has_same_codes m m'

-- an earlier one has them
abbrev pub duplicate_of : List Data → Members → Option ConfigFault
duplicate_of earlier m = if list_any (λ d. is_same_station_in m (table_in d)) earlier then Some Duplicate else None

-- all steps of a table
abbrev pub table_faults : Option Members → List Data → ℕ → Members → List FoundFault
table_faults groups earlier place m =
    flat_map (key_told groups place m) key_steps
    ++ station_told place m station.Codes (duplicate_of earlier m)

-- of a value that is to be one
abbrev pub value_faults : Option Members → List Data → ℕ → Result Members ConfigFault → List FoundFault
value_faults groups earlier place (Err fault) =
    record { step = step.Station place station.Table; fault = fault; network = None; code = None } ∷ []
value_faults groups earlier place (Ok m) = table_faults groups earlier place m

-- ---- all of them

abbrev pub values_faults : Option Members → List Data → ℕ → List Data → List FoundFault
values_faults groups earlier place [] = []
values_faults groups earlier place (d ∷ ds) =
    value_faults groups earlier place (table_in d) ++ values_faults groups (earlier ++ d ∷ []) (place + 1) ds

abbrev pub stations_faults : Option Members → Result (List Data) ConfigFault → List FoundFault
stations_faults groups (Err fault) = []
stations_faults groups (Ok ds) = values_faults groups [] 0 ds

abbrev pub all_faults : Members → List FoundFault
all_faults m = server_faults m ++ stations_faults (groups_of m) (elements_at (codes "station") m)

-- of a text's table, if it is TOML
abbrev pub faults_in : Option Members → List FoundFault
faults_in None = []
faults_in (Some m) = all_faults m
