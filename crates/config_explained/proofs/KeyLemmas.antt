-- The reading of a configuration takes the keys of the table alone.
use Rattle.std.proofs.Common.{◌≡◌, Option, Some, rules}
use Rattle.toml.specs.Data.{Members}
use Rattle.catalog.specs.Keys.{elements_at, number_at, number_if_any, text_at, text_if_any}
use Rattle.catalog.specs.Reading.{entry_of, config_of, stations_of, station_values}
use Rattle.catalog.specs.declared.error.Step.{Step}
use Rattle.catalog.specs.Settings.{access_of, connections_of, title_of, station_settings}
use Rattle.config_explained.specs.KeyTable.{AreAlike, ReadsTheTable, key_at, server_keys, station_keys, step_of}
use Rattle.config_explained.specs.declared.key.Key.{Key}

entry_same : (groups : Option Members) (m m' : Members) → AreAlike station_keys m m' → entry_of groups m ≡ entry_of groups m'
unfolding entry_of station_settings text_at text_if_any number_at number_if_any elements_at
entry_same groups m m' alike = simp alike

config_same : (m m' : Members) → AreAlike server_keys m m' → config_of m ≡ config_of m'
unfolding config_of title_of access_of connections_of stations_of station_values text_at text_if_any number_if_any
    elements_at
config_same m m' alike = simp alike

each_is_read : (k : Key) (s : Step) → step_of k ≡ Some s → key_at s ≡ Some k
each_is_read k s is = search rules

pub reads : ReadsTheTable
reads = record { of_station = entry_same; of_server = config_same; each = each_is_read }
