-- What a loop does: the calls on ports that it makes, and the events of the server that they are.
-- The loop is this project's own. Left out: why a new port is turned away.
use Rattle.std.specs.Prelude.{ℕ, ◌+◌, ◌-◌, ◌^◌, ◌==◌, min, if◌then◌else◌, List, [], ◌∷◌, take, map, flat_map, Result}
use Rattle.std.specs.Prelude.{Ok, Err}
use Rattle.std.specs.Net.Addr.{ipv4_bits}
use Rattle.std.specs.declared.net.ipv4_addr.Ipv4Addr.{Ipv4Addr}
use Rattle.protocol.specs.Catalog.{Config}
use Rattle.protocol.specs.World.{Event, World, world_from}
use Rattle.protocol.specs.World.Event.{Open, Bytes, Take, Close, Arrive}
use Rattle.ports.specs.declared.answers.Happening.{Happening}
use Rattle.ports.specs.declared.answers.Happening.TheVariants.{Joined, JoinedFeed, Quiet}
use Rattle.ports.specs.declared.answers.Put.{Put}
use Rattle.ports.specs.declared.answers.PortFault.{PortFault}
use Rattle.ports.specs.Calls.{Call, Given, taken}
use Rattle.ports.specs.Calls.Call.{Next, Read, Write, Shut}
use Rattle.ports.specs.Calls.Given.{Piece}

-- ---- one thing that a loop does

pub data Deed : Type 0 where
  -- It hears what happened, and no new port comes of it.
  Hears : Result Happening PortFault → Deed
  -- A client's port joined, and the client is opened.
  Opens : (port : ℕ) → Ipv4Addr → Deed
  -- A feed's port joined.
  Feeds : (port : ℕ) → Deed
  -- A port joined, and is shut with no byte.
  TurnsAway : Happening → (port : ℕ) → Deed
  -- It reads a client's port.
  Reads : (client port most : ℕ) → Given → Deed
  -- It reads a feed's port, and has these of the records that became whole arrive. So many were refused.
  ReadsFeed : (port most : ℕ) → Given → (records : List (List ℕ)) → (refused : ℕ) → Deed
  -- It writes to a client's port.
  Writes : (client port : ℕ) → (bytes : List ℕ) → Result Put PortFault → Deed
  -- It offers, and finds nothing that waits.
  Offers : (client : ℕ) → Deed
  -- It ends a client's port, and the client is closed.
  Closes : (client port : ℕ) → Deed
  -- It ends a feed's port.
  ShutsFeed : (port : ℕ) → Deed

-- the calls that it is
abbrev pub calls_of : Deed → List Call
calls_of (Hears answer) = Next answer ∷ []
calls_of (Opens port address) = Next (Ok (Joined port address)) ∷ []
calls_of (Feeds port) = Next (Ok (JoinedFeed port)) ∷ []
calls_of (TurnsAway happening port) = Next (Ok happening) ∷ Shut port ∷ []
calls_of (Reads client port most gave) = Read port most gave ∷ []
calls_of (ReadsFeed port most gave records refused) = Read port most gave ∷ []
calls_of (Writes client port bytes answer) = Write port bytes answer ∷ []
calls_of (Offers client) = []
calls_of (Closes client port) = Shut port ∷ []
calls_of (ShutsFeed port) = Shut port ∷ []

-- what came from a client
abbrev pub bytes_events : (client : ℕ) → Given → List Event
bytes_events client (Piece bytes) = Bytes client bytes ∷ []
bytes_events client _ = []

-- the events that it is
abbrev pub events_of : Deed → List Event
events_of (Hears answer) = []
events_of (Opens port address) = Open (ipv4_bits address) ∷ []
events_of (Feeds port) = []
events_of (TurnsAway happening port) = []
events_of (Reads client port most gave) = bytes_events client gave
events_of (ReadsFeed port most gave records refused) = map Arrive records
events_of (Writes client port bytes answer) = Take client (taken answer) ∷ []
events_of (Offers client) = Take client 0 ∷ []
events_of (Closes client port) = Close client ∷ []
events_of (ShutsFeed port) = []

-- ---- all of them

-- all calls, and all events
abbrev pub calls_in : List Deed → List Call
calls_in deeds = flat_map calls_of deeds

abbrev pub events_in : List Deed → List Event
events_in deeds = flat_map events_of deeds

-- the world after them
abbrev pub world_beyond : Config → World → List Deed → World
world_beyond config w deeds = world_from config w (events_in deeds)

-- the bytes that a port of the k-th client took
abbrev pub taken_at : ℕ → Deed → List ℕ
taken_at k (Writes client port bytes answer) = if client == k then take (taken answer) bytes else []
taken_at k _ = []

-- in all
abbrev pub taken_in : ℕ → List Deed → List ℕ
taken_in k deeds = flat_map (taken_at k) deeds

-- ---- what is counted

-- how many happenings other than Quiet were taken, and how many records were refused
pub record Tally : Type 0 where
  pub happenings : ℕ
  pub refused : ℕ

-- nothing yet
abbrev pub no_tally : Tally
no_tally = record { happenings = 0; refused = 0 }

-- one happening more
abbrev pub one_more : Tally → Tally
one_more t = record t { happenings = t.happenings + 1 }

-- so many refused records more, as far as they can be counted: up to 2^64 - 1
abbrev pub refused_more : ℕ → ℕ → ℕ
refused_more refused n = refused + min n (2 ^ 64 - 1 - refused)

-- with what was heard
abbrev pub tally_heard : Tally → Result Happening PortFault → Tally
tally_heard t (Ok Quiet) = t
tally_heard t (Ok happening) = one_more t
tally_heard t (Err fault) = t

-- with a deed
abbrev pub tally : Tally → Deed → Tally
tally t (Hears answer) = tally_heard t answer
tally t (Opens port address) = one_more t
tally t (Feeds port) = one_more t
tally t (TurnsAway happening port) = one_more t
tally t (ReadsFeed port most gave records refused) = record t { refused = refused_more t.refused refused }
tally t _ = t

-- with all of them
abbrev pub tallied : Tally → List Deed → Tally
tallied t [] = t
tallied t (d ∷ ds) = tallied (tally t d) ds
