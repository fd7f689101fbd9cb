-- Stations that are named by their places in a configuration.
use Rattle.std.specs.Prelude.{◌≡◌, ℕ, ◌<◌, List, [], length, map, slice_get, option_map, unwrap_or}
use Rattle.std.specs.List.{AllPairs}
use Rattle.protocol.specs.Catalog.{Config, Entry, Station, View}

-- the station of a place that is not there
abbrev pub nowhere : Station
nowhere = record { network = []; code = []; description = []; capacity = 0; first = 0 }

-- the station at a place
abbrev pub station_at : List Entry → ℕ → Station
station_at entries place = unwrap_or (option_map (λ e. e.station) (slice_get entries place)) nowhere

-- the places of the stations that an address sees, and the same places in the order of the stations' codes
pub record Seen : Type 0 where
  pub places : List ℕ
  pub by_codes : List ℕ

-- the view that they are
abbrev pub view_in : Config → Seen → View
view_in config seen = record { title = config.title; stations = map (station_at config.entries) seen.places }

-- each of the places is below those after it
abbrev pub AreRising : List ℕ → Type 0
AreRising places = AllPairs (λ p q. p < q) places

-- a place at which the configuration has a station
abbrev pub IsPlace : Config → ℕ → Type 0
IsPlace config place = place < length config.entries

-- two stations have the same network and code
abbrev pub SameCodes : Station → Station → Type 0
SameCodes s t = (s.network ≡ t.network) × (s.code ≡ t.code)

-- no station has the codes of another place's; at a place that is not there they are empty
abbrev pub HasDistinctCodes : List Entry → Type 0
HasDistinctCodes entries = (i j : ℕ) → i < length entries → SameCodes (station_at entries i) (station_at entries j)
    → i ≡ j
