-- At which step the reading of a configuration fails first: all steps before it succeed, and it gives the fault.
use Rattle.std.specs.Prelude.{◌≡◌, ℕ, ◌+◌, List, [], ◌∷◌, ◌++◌, take, slice_get, Option, Some, None, Result, Ok, Err}
use Rattle.std.specs.Prelude.{IsOk, IsOkAnd, option_map}
use Rattle.std.specs.Result.{result_err, result_ok}
use Rattle.toml.specs.Data.{Data, Members}
use Rattle.protocol.specs.Catalog.{Entry}
use Rattle.catalog.specs.Groups.{groups_of}
use Rattle.catalog.specs.Keys.{table_in}
use Rattle.catalog.specs.Reading.{entry_of, not_repeated, station_values, stations_read}
use Rattle.catalog.specs.Settings.{access_of, title_of, connections_of, network_of, code_of, key_fault, key_steps}
use Rattle.catalog.specs.Settings.{setting_steps}
use Rattle.catalog.specs.Steps.{◌>>=◌, first_fault}
use Rattle.catalog.specs.declared.fault.ConfigFault.{ConfigFault}
use Rattle.catalog.specs.declared.fault.ConfigFault.TheVariants.{Toml}
use Rattle.catalog.specs.declared.error.ConfigError.{ConfigError}
use Rattle.catalog.specs.declared.error.Step.{Step}
use Rattle.catalog.specs.declared.error.Step.TheVariants as step
use Rattle.catalog.specs.declared.settings.StationStep.{StationStep}
use Rattle.catalog.specs.declared.settings.StationStep.TheVariants.{Table, Network, Code, Codes}

-- ---- one station, by its table where it is one

-- the steps of its reading, in order
abbrev pub station_steps : List StationStep
station_steps = Table ∷ key_steps ++ Codes ∷ []

-- The fault of a step behind earlier stations, if it fails: the last is that none of them has the same codes. Without a
-- table each fails.
abbrev pub fault_at : Option Members → List Entry → Result Members ConfigFault → StationStep → Option ConfigFault
fault_at groups earlier (Err fault) s = Some fault
fault_at groups earlier (Ok members) Codes = result_err (entry_of groups members >>= not_repeated earlier)
fault_at groups earlier (Ok members) s = key_fault groups members s

-- the network's code, where it was read before a step
abbrev pub network_before : Result Members ConfigFault → StationStep → Option (List ℕ)
network_before table Table = None
network_before table Network = None
network_before table _ = result_ok (table >>= network_of)

-- the station's code, where it was read before a step
abbrev pub code_before : Result Members ConfigFault → StationStep → Option (List ℕ)
code_before table Table = None
code_before table Network = None
code_before table Code = None
code_before table _ = result_ok (table >>= code_of)

-- it is the first step that fails, with the fault of an error, which has the codes that were read before
abbrev pub FailsFirst : Option Members → List Entry → Result Members ConfigFault → ConfigError → StationStep → Type 0
FailsFirst groups earlier table e s =
    (first_fault (fault_at groups earlier table) station_steps ≡ Some (s, e.fault))
    × (option_map (λ text. text.items) e.network ≡ network_before table s)
    × (option_map (λ text. text.items) e.code ≡ code_before table s)

-- that step is of the station at this place, which fails first there
abbrev pub FailsAtStep : Option Members → ℕ → List Entry → Result Members ConfigFault → ConfigError → Step → Type 0
FailsAtStep groups place earlier table e (step.Station p s) = (p ≡ place) × FailsFirst groups earlier table e s
FailsAtStep groups place earlier table e _ = ⊥

-- an error names the first step of the station at a place that fails
abbrev pub FailsWithin : Option Members → ℕ → List Entry → Result Members ConfigFault → ConfigError → Type 0
FailsWithin groups place earlier table e = FailsAtStep groups place earlier table e e.step

-- the first step of the settings that fails; both codes are read before
abbrev pub FailsAtSetting : Option Members → Members → ConfigFault → StationStep → Type 0
FailsAtSetting groups members fault s =
    (first_fault (key_fault groups members) setting_steps ≡ Some (s, fault))
    × (network_before (Ok members) s ≡ result_ok (network_of members))
    × (code_before (Ok members) s ≡ result_ok (code_of members))

-- ---- all stations

-- The stations before a place are read, and with the one at it the reading fails: the error names the first step of
-- that station that fails.
pub record FailsAtPlace (groups : Option Members) (values : List Data) (e : ConfigError) (place : ℕ) : Type 0 where
  pub earlier : List Entry
  pub value : Data
  pub before : stations_read groups [] (take place values) ≡ Ok earlier
  pub there : slice_get values place ≡ Some value
  pub first : FailsWithin groups place earlier (table_in value) e
  pub fails : stations_read groups [] (take (place + 1) values) ≡ Err e.fault

-- an error names the first station that fails, and in it the first step
abbrev pub FailsAmong : Option Members → List Data → ConfigError → Step → Type 0
FailsAmong groups values e (step.Station place s) = FailsAtPlace groups values e place
FailsAmong groups values e _ = ⊥

-- the step is the one that fails first of those of `station`
abbrev pub FailsInStations : Members → ConfigError → Step → Type 0
FailsInStations table e step.Stations = station_values table ≡ Err e.fault
FailsInStations table e (step.Station place s) =
    IsOkAnd (station_values table) (λ values. FailsAtPlace (groups_of table) values e place)
FailsInStations table e _ = ⊥

-- ---- the whole

-- the server's own keys are read
abbrev pub AreKeysRead : Members → Type 0
AreKeysRead members =
    IsOk (title_of members) × IsOk (access_of (groups_of members) members) × IsOk (connections_of members)

-- of a text's table, where the text is read: it fails first at that step, with the fault of an error
abbrev pub FailsAtOnce : Option Members → ConfigError → Step → Type 0
FailsAtOnce None e step.Text = e.fault ≡ Toml
FailsAtOnce (Some members) e step.Title = title_of members ≡ Err e.fault
FailsAtOnce (Some members) e step.Access =
    IsOk (title_of members) × (access_of (groups_of members) members ≡ Err e.fault)
FailsAtOnce (Some members) e step.MaxConnections =
    IsOk (title_of members) × IsOk (access_of (groups_of members) members) × (connections_of members ≡ Err e.fault)
FailsAtOnce (Some members) e step.Stations = AreKeysRead members × FailsInStations members e step.Stations
FailsAtOnce (Some members) e (step.Station place s) =
    AreKeysRead members × FailsInStations members e (step.Station place s)
FailsAtOnce _ e _ = ⊥

-- the step that an error names is the first that fails
abbrev pub FailsAt : Option Members → ConfigError → Type 0
FailsAt table e = FailsAtOnce table e e.step
