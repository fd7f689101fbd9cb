-- A turn of a loop: what it hears, and then each open port's pass, by rising number; and what each client is handed by
-- it. The loop is this project's own.
use Rattle.std.specs.Prelude.{◌≡◌, ℕ, ◌+◌, ◌*◌, ◌≤◌, if◌then◌else◌, List, [], ◌∷◌, ◌++◌, length, flat_map, Option}
use Rattle.std.specs.Prelude.{Some, None}
use Rattle.protocol.specs.Catalog.{Config}
use Rattle.protocol.specs.World.{Event, World, config_after, world_after}
use Rattle.protocol.specs.Alone.{alone, own_view, seen}
use Rattle.server_core.specs.ServerValues.{ServerValue}
use Rattle.event_loop.specs.declared.seat.Role.{Role}
use Rattle.event_loop.specs.declared.seat.Role.TheVariants.{Client as ClientRole, Feed as FeedRole}
use Rattle.event_loop.specs.declared.seat.Seat.{Seat}
use Rattle.event_loop.specs.declared.turning.Turned.{Turned}
use Rattle.ports.specs.Calls.{Call}
use Rattle.event_loop.specs.Deeds.{Deed, Tally, no_tally, events_in, taken_in, world_beyond}
use Rattle.event_loop.specs.Going.{Does}
use Rattle.event_loop.specs.Hearing.{Hearing, End, heard}
use Rattle.event_loop.specs.Hearing.End.{Limit, Quieted, Faulted}
use Rattle.event_loop.specs.Passes.{ClientPass}
use Rattle.event_loop.specs.Feeding.{FeedReads}

-- ---- passes

-- the pass over one port, by whose it is
abbrev pub PassOf : Role → Config → ℕ → World → Seat → List Deed → World → Option Seat → Type 0
PassOf (ClientRole k) config limit w s ds w' o = ClientPass config k limit w s ds w' o
PassOf (FeedRole rest) config limit w s ds w' o = FeedReads config limit w s ds w' o

-- the pass over a seat
abbrev pub SeatPass : Config → ℕ → World → Seat → List Deed → World → Option Seat → Type 0
SeatPass config limit w s ds w' o = PassOf s.role config limit w s ds w' o

-- a seat that stays, or none
abbrev pub stayed : Option Seat → List Seat → List Seat
stayed None seats = seats
stayed (Some s) seats = s ∷ seats

-- The passes over these ports, one after the other.
pub data Passes (config : Config) (limit : ℕ) : World → List Seat → List Deed → World → List Seat → Type 0 where
  done : {w : World} → Passes config limit w [] [] w []
  next : {w last : World} {s : Seat} {ss : List Seat} {all : List Deed} {after : List Seat}
      (mid : World) (o : Option Seat) (pass rest : List Deed) (ss' : List Seat) →
      SeatPass config limit w s pass mid o → Passes config limit mid ss rest last ss' →
      all ≡ pass ++ rest → after ≡ stayed o ss' →
      Passes config limit w (s ∷ ss) all last after

-- ---- turns

-- A turn: what was heard, and then the passes.
pub record IsTurn (config : Config) (max_clients limit : ℕ) (w : World) (seats : List Seat) (deeds : List Deed)
    (w' : World) (seats' : List Seat) (end : End) : Type 0 where
  pub heard_deeds : List Deed
  pub pass_deeds : List Deed
  pub between : World
  pub open_then : List Seat
  pub whole : deeds ≡ heard_deeds ++ pass_deeds
  pub first : Hearing config max_clients limit w seats heard_deeds between (heard open_then end)
  pub passes : Passes config limit between open_then pass_deeds w' seats'

-- what is handed to a client alone, as one run of bytes
abbrev pub bytes_alone : Config → List Event → ℕ → List ℕ
bytes_alone config events k = flat_map (λ t. t.bytes) (alone (own_view config events k) (seen config events k))

-- A client's port takes what a client alone is handed, from its own events and the arrivals that it sees: at whatever
-- configuration the server began, and whatever events, with new configurations among them, led to this one and to this
-- world.
abbrev pub HandsAsAlone : Config → World → List Deed → Type 0
HandsAsAlone config w deeds = (first : Config) (h : List Event) → config_after first h ≡ config
    → world_after first h ≡ w →
    (k : ℕ) → bytes_alone first (h ++ events_in deeds) k ≡ bytes_alone first h k ++ taken_in k deeds

-- the count that a turn answers
abbrev pub tally_of : Turned → Tally
tally_of turned = record { happenings = turned.happenings; refused = turned.refused }

-- why no more was heard in a turn that was made
abbrev pub end_of : Turned → End
end_of turned = if turned.quiet then Quieted else Limit

-- At most so many records arrived between the two worlds.
abbrev pub BringsAtMost : ℕ → World → World → Type 0
BringsAtMost most w w' = length w'.history ≤ length w.history + most

-- A turn was made. Each of up to 16 feeds brought at most so many records as reads are made of a port.
pub record Turns (config : Config) (max_clients limit : ℕ) (w : World) (calls calls' : Option (List Call))
    (server' : ServerValue)
    (seats seats' : List Seat) (turned : Turned) : Type 0 where
  pub deeds : List Deed
  pub does : Does config w calls calls' server' no_tally (tally_of turned) deeds
  pub how : IsTurn config max_clients limit w seats deeds (world_beyond config w deeds) seats' (end_of turned)
  pub few_records : BringsAtMost (16 * limit) w (world_beyond config w deeds)
  pub isolation : HandsAsAlone config w deeds

-- A turn that failed heard a fault, and went through no port.
pub record Fails (config : Config) (max_clients limit : ℕ) (w : World) (calls calls' : Option (List Call))
    (server' : ServerValue)
    (seats seats' : List Seat) : Type 0 where
  pub deeds : List Deed
  pub counts : Tally
  pub does : Does config w calls calls' server' no_tally counts deeds
  pub how : Hearing config max_clients limit w seats deeds (world_beyond config w deeds) (heard seats' Faulted)
  pub no_record : BringsAtMost 0 w (world_beyond config w deeds)
  pub isolation : HandsAsAlone config w deeds
