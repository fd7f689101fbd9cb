-- The tables of a configuration.
use Rattle.std.specs.Prelude.{ℕ, Option, option_and_then, codes}
use Rattle.toml.specs.Data.{Members, as_table, at, get_member}

-- the table of the station at a place
abbrev pub station_table : Members → ℕ → Option Members
station_table keys place = option_and_then as_table (option_and_then (at place) (get_member (codes "station") keys))
