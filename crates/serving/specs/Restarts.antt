-- Two servers, each of which runs any number of times, one run after the other over its own file of numbers, and what
-- one client is handed in each run of both.
-- Left out: when the file is written, and keeps that fail.
use Rattle.std.specs.Prelude.{◌≡◌, ℕ, Bool, List, [], ◌∷◌, ◌++◌, filter, map}
use Rattle.protocol.specs.Catalog.{Config, Station, View, stations_of}
use Rattle.protocol.specs.History.{Arrival}
use Rattle.protocol.specs.Client.{Taken}
use Rattle.protocol.specs.World.{Event, handed, world_after}
use Rattle.protocol.specs.Alone.{handed_to, own_view, seen}
use Rattle.catalog.specs.Numbers.{Numbered, config_by, numbered}
use Rattle.number_file.specs.Tables.{is_of_another, with_nexts}
use Rattle.serving.specs.Ahead.{numbers_ahead}

-- ---- a client's stations

-- which stations are a client's, by their network and code
abbrev pub Mine : Type 0
Mine = List ℕ → List ℕ → Bool

abbrev pub is_mine : Mine → Station → Bool
is_mine mine s = mine s.network s.code

-- A record is of one of them.
abbrev pub comes_to : Mine → Arrival → Bool
comes_to mine a = mine a.facts.network a.facts.station

-- those of a configuration, in order
abbrev pub stations_for : Mine → Config → List Station
stations_for mine config = filter (is_mine mine) (stations_of config)

-- the view that has these and no others
abbrev pub view_for : Mine → Config → View
view_for mine config = record { title = config.title; stations = stations_for mine config }

-- ---- runs

-- what happened in a run until numbers were last kept, or were found to be the ones that were kept; what happened after
-- that, until it ended in whatever way; and which of its clients is looked at
pub record Run : Type 0 where
  pub events : List Event
  pub last : List Event
  pub client : ℕ

-- all that happened
abbrev pub all_of : Run → List Event
all_of r = r.events ++ r.last

-- what the file says after a run that began with what it said before: what is kept of the stations, and what was kept
-- of others
abbrev pub kept_after : Config → List Numbered → List Event → List Numbered
kept_after config kept events =
    let began : Config = config_by kept config in
    with_nexts (map numbered began.entries ++ filter (is_of_another began) kept)
    (numbers_ahead began (world_after began events).history)

-- what is handed in each run to the client that is looked at
abbrev pub handed_in : Config → List Numbered → List Run → List (List Taken)
handed_in config kept [] = []
handed_in config kept (r ∷ runs) =
    handed_to r.client (handed (config_by kept config) (all_of r))
    ∷ handed_in config (kept_after config kept r.events) runs

-- ---- two servers

-- In a run of each, the client sees its stations and no others, has the same events of its own, and the same arrive.
pub record AreAlike (mine : Mine) (config config' : Config) (r r' : Run) : Type 0 where
  pub view : own_view config (all_of r) r.client ≡ view_for mine config
  pub view' : own_view config' (all_of r') r'.client ≡ view_for mine config'
  pub own : seen config (all_of r) r.client ≡ seen config' (all_of r') r'.client
  pub arrivals : filter (comes_to mine) (world_after config r.events).history
      ≡ filter (comes_to mine) (world_after config' r'.events).history

-- The same in each of their runs, as each begins by its own file.
pub data AllAlike (mine : Mine) (config config' : Config)
    : (kept kept' : List Numbered) → (runs runs' : List Run) → Type 0 where
  none : {kept kept' : List Numbered} → AllAlike mine config config' kept kept' [] []
  more : {kept kept' : List Numbered} {r r' : Run} {runs runs' : List Run} →
      AreAlike mine (config_by kept config) (config_by kept' config') r r' →
      AllAlike mine config config' (kept_after config kept r.events) (kept_after config' kept' r'.events) runs runs' →
      AllAlike mine config config' kept kept' (r ∷ runs) (r' ∷ runs')

-- At two servers whose configurations have the same title and the same stations for the client, and whose files first
-- say the same of these, as where there is none yet, it is handed the same in each run, whatever arrives at other
-- stations and whatever other clients do.
abbrev pub RestartsTellNothing : Type 0
RestartsTellNothing = (mine : Mine) (config config' : Config) (kept kept' : List Numbered) (runs runs' : List Run) →
    config.title ≡ config'.title → stations_for mine config ≡ stations_for mine config' →
    stations_for mine (config_by kept config) ≡ stations_for mine (config_by kept' config') →
    AllAlike mine config config' kept kept' runs runs' → handed_in config kept runs ≡ handed_in config' kept' runs'
