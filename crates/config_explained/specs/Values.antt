-- The values that the steps of the reading of a configuration look at.
use Rattle.std.specs.Prelude.{ℕ, Option, Some, None, option_and_then}
use Rattle.toml.specs.Data.{Data, Members, at, get, get_member}
use Rattle.catalog.specs.declared.error.Step.{Step}
use Rattle.catalog.specs.declared.error.Step.TheVariants as step
use Rattle.catalog.specs.declared.settings.StationStep.{StationStep}
use Rattle.catalog.specs.declared.settings.StationStep.TheVariants as station
use Rattle.config_explained.specs.KeyTable.{key_at, name_of, station_key_at}
use Rattle.config_explained.specs.declared.key.Key.{Key}
use Rattle.config_explained.specs.declared.key.Key.TheVariants as key

-- the element of `station` at a place
abbrev pub station_at : Members → ℕ → Option Data
station_at keys place = option_and_then (at place) (get_member (name_of key.Station) keys)

-- the value at a key of a station, if it is one
abbrev pub value_by : Data → Option Key → Option Data
value_by d None = None
value_by d (Some k) = get (name_of k) d

-- the value that a step of a station looks at
abbrev pub setting_at : Data → StationStep → Option Data
setting_at d station.Table = Some d
setting_at d s = value_by d (station_key_at s)

-- the value at a key of the whole server, if it is one
abbrev pub member_by : Members → Option Key → Option Data
member_by keys None = None
member_by keys (Some k) = get_member (name_of k) keys

-- the value that a step looks at, if one is there
abbrev pub value_at : Members → Step → Option Data
value_at keys (step.Station place s) = option_and_then (λ d. setting_at d s) (station_at keys place)
value_at keys s = member_by keys (key_at s)
