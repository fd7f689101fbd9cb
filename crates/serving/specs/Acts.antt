-- What a run of a server does: turns, and new configurations between them.
use Rattle.std.specs.Prelude.{◌≡◌, ℕ, List, [], ◌∷◌, ◌++◌, flat_map}
use Rattle.protocol.specs.Catalog.{Config}
use Rattle.protocol.specs.World.{Event, World, config_after, world_after, world_from}
use Rattle.protocol.specs.World.Event.{Reload}
use Rattle.ports.specs.Calls.{Call}
use Rattle.event_loop.specs.Deeds.{Deed, calls_in, events_in, taken_in}
use Rattle.event_loop.specs.Turns.{bytes_alone}

-- one turn, with what it did, or one new configuration that was given to the server
pub data Act : Type 0 where
  Turning : List Deed → Act
  Reloading : Config → Act

-- the events that it is
abbrev pub act_events : Act → List Event
act_events (Turning deeds) = events_in deeds
act_events (Reloading new) = Reload new ∷ []

-- the bytes that a port of the k-th client took
abbrev pub act_taken : ℕ → Act → List ℕ
act_taken k (Turning deeds) = taken_in k deeds
act_taken k (Reloading new) = []

-- the calls on ports that it is
abbrev pub act_calls : Act → List Call
act_calls (Turning deeds) = calls_in deeds
act_calls (Reloading new) = []

-- all calls, all events, and all bytes
abbrev pub all_calls : List Act → List Call
all_calls acts = flat_map act_calls acts

abbrev pub all_events : List Act → List Event
all_events acts = flat_map act_events acts

abbrev pub all_taken : ℕ → List Act → List ℕ
all_taken k acts = flat_map (act_taken k) acts

-- the configuration in force after them, and the world
abbrev pub config_then : Config → List Act → Config
config_then config acts = config_after config (all_events acts)

abbrev pub world_then : Config → World → List Act → World
world_then config w acts = world_from config w (all_events acts)

-- Each client's port takes what a client alone is handed, by its own events and the arrivals that it sees, with new
-- configurations before and between: at whatever configuration the server began, and whatever events led here.
abbrev pub HandsThroughout : Config → World → List Act → Type 0
HandsThroughout config w acts = (first : Config) (h : List Event) → config_after first h ≡ config
    → world_after first h ≡ w →
    (k : ℕ) → bytes_alone first (h ++ all_events acts) k ≡ bytes_alone first h k ++ all_taken k acts
