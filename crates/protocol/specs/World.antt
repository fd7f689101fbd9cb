-- All clients of a server over one history, by the configuration in force.
-- SeedLink 3 says nothing of several clients. Left out: a connection that the server refuses, which is no event.
use Rattle.std.specs.Prelude.{ℕ, zero, suc, List, [], ◌∷◌, ◌++◌, Bool, true, if◌then◌else◌, Option, Some, None}
use Rattle.std.specs.Prelude.{option_map, map, slice_get, Result, Ok, Err}
use Rattle.std.specs.List.{list_any}
use Rattle.protocol.specs.Record.{Facts, header_of}
use Rattle.protocol.specs.declared.record.RecordFault.{RecordFault}
use Rattle.protocol.specs.Catalog.{Config, View, view_of, has_codes, is_same_view, is_same_but_for_access}
use Rattle.protocol.specs.History.{Arrival}
use Rattle.protocol.specs.Client.{Client, Taken, new_client, received, offered, cut, taken_of, after_take}

-- What happens at a server: to one client, by its number, a connection from an address, bytes from it, that it is ready
-- to take so many bytes, and its connection's end; and to all a record from a feeder, and a new configuration.
pub data Event : Type 0 where
  Open : (address : ℕ) → Event
  Bytes : (client : ℕ) → (bytes : List ℕ) → Event
  Take : (client : ℕ) → (count : ℕ) → Event
  Close : (client : ℕ) → Event
  Arrive : (record_ : List ℕ) → Event
  Reload : (new : Config) → Event

-- A connection has its address, the view that this had when it opened, and a client while it is open.
pub record Connection : Type 0 where
  pub address : ℕ
  pub view : View
  pub client : Option Client

-- the arrivals so far, and the connections
pub record World : Type 0 where
  pub history : List Arrival
  -- the k-th that was opened, from 0
  pub connections : List Connection

-- the world at a server's start
abbrev pub empty_world : World
empty_world = record { history = []; connections = [] }

-- some station has these codes
abbrev pub is_configured : Config → Facts → Bool
is_configured config x = list_any (λ e. has_codes x.network x.station e.station) config.entries

-- ---- arrivals

-- the arrival that a record is, where it is accepted
abbrev pub arrival_with : Config → List ℕ → Result Facts RecordFault → Option Arrival
arrival_with config r (Err f) = None
arrival_with config r (Ok x) = if is_configured config x then Some (record { bytes = r; facts = x }) else None

-- A record is accepted where it has facts and some station has its codes.
abbrev pub accepted : Config → List ℕ → Option Arrival
accepted config r = arrival_with config r (header_of r)

-- the history with an arrival more, where it was accepted
abbrev pub arrived : List Arrival → Option Arrival → List Arrival
arrived h None = h
arrived h (Some a) = h ++ a ∷ []

-- ---- connections

-- a connection that has just opened
abbrev pub opened : Config → ℕ → Connection
opened config a = record { address = a; view = view_of config a; client = Some new_client }

-- the connection with a client that was open changed
abbrev pub changed : (View → Client → Client) → Connection → Connection
changed f k = record k { client = option_map (f k.view) k.client }

-- the connection without its client
abbrev pub closed : Connection → Connection
closed k = record k { client = None }

-- the connections with that of a number changed
abbrev pub at : List Connection → ℕ → (Connection → Connection) → List Connection
at [] k f = []
at (c ∷ cs) zero f = f c ∷ cs
at (c ∷ cs) (suc k) f = c ∷ at cs k f

-- ---- the configuration in force

-- A new configuration comes into force where it differs in nothing but the lists of addresses. Else it is refused, and
-- all stays as it is.
abbrev pub reloaded : Config → Config → Config
reloaded config new = if is_same_but_for_access config new then new else config

-- the configuration in force after an event
abbrev pub config_by : Config → Event → Config
config_by config (Reload new) = reloaded config new
config_by config e = config

-- after events
abbrev pub config_after : Config → List Event → Config
config_after config [] = config
config_after config (e ∷ es) = config_after (config_by config e) es

-- A client is cut where its address would have another view under the new configuration than it had when it opened.
abbrev pub reviewed : Config → Connection → Connection
reviewed new k = if is_same_view (view_of new k.address) k.view then k else changed (λ v c. cut c) k

-- all connections, where the new configuration comes into force
abbrev pub reviewed_by : Config → Config → List Connection → List Connection
reviewed_by config new cs = if is_same_but_for_access config new then map (reviewed new) cs else cs

-- ---- events one after the other

-- the world after an event, under the configuration in force before it
abbrev pub step : Config → World → Event → World
step config w (Open a) = record w { connections = w.connections ++ opened config a ∷ [] }
step config w (Bytes k bytes) =
    record w { connections = at w.connections k (changed (λ v c. received v w.history bytes c)) }
step config w (Take k n) =
    record w { connections = at w.connections k (changed (λ v c. after_take v w.history (offered w.history c) n)) }
step config w (Close k) = record w { connections = at w.connections k closed }
step config w (Arrive r) = record w { history = arrived w.history (accepted config r) }
step config w (Reload new) = record w { connections = reviewed_by config new w.connections }

-- the world after events
abbrev pub world_from : Config → World → List Event → World
world_from config w [] = w
world_from config w (e ∷ es) = world_from (config_by config e) (step config w e) es

-- the world after events, from a server's start
abbrev pub world_after : Config → List Event → World
world_after config es = world_from config empty_world es

-- ---- what is handed

-- what a Take handed to a client, and whether it was told that its connection is over
pub record Handed : Type 0 where
  pub client : ℕ
  pub bytes : List ℕ
  pub ended : Bool

-- on a connection that isn't open a Take hands nothing, and is ended
abbrev pub gone : Taken
gone = record { bytes = []; ended = true }

-- the client of a connection, where it is open
abbrev pub client_of : Option Connection → Option Client
client_of None = None
client_of (Some k) = k.client

-- what a Take hands to a client, where it is open
abbrev pub taken_by : List Arrival → Option Client → ℕ → Taken
taken_by h None n = gone
taken_by h (Some c) n = taken_of (offered h c) n

-- what a Take handed to the k-th client
abbrev pub told : ℕ → Taken → Handed
told k t = record { client = k; bytes = t.bytes; ended = t.ended }

-- what each Take hands, in order
abbrev pub handed_from : Config → World → List Event → List Handed
handed_from config w [] = []
handed_from config w (Take k n ∷ es) =
    told k (taken_by w.history (client_of (slice_get w.connections k)) n)
    ∷ handed_from config (step config w (Take k n)) es
handed_from config w (e ∷ es) = handed_from (config_by config e) (step config w e) es

-- what each Take hands, from a server's start
abbrev pub handed : Config → List Event → List Handed
handed config es = handed_from config empty_world es
