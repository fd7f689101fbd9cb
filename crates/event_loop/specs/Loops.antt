-- What a loop is for its callers, and what a turn makes of it.
use Rattle.std.specs.Prelude.{ℕ, List, Option}
use Rattle.protocol.specs.Catalog.{Config}
use Rattle.protocol.specs.World.{World}
use Rattle.server_core.specs.ServerValues.{ServerValue}
use Rattle.ports.specs.Calls.{Call}
use Rattle.ports.specs.declared.decisions.Decision.{Decision}
use Rattle.event_loop.specs.declared.seat.Seat.{Seat}
use Rattle.event_loop.specs.declared.turning.Turned.{Turned}
use Rattle.event_loop.specs.Turns.{Turns, Fails}

-- a server over ports: the server; the calls on its ports, if they are told, and how many failed; what was decided of
-- ports, if they tell it; the open ports, by rising number; how many clients may be open; and how many records the
-- server refused
pub record LoopValue : Type 0 where
  pub server : ServerValue
  pub calls : Option (List Call)
  pub failures : ℕ
  pub decided : Option (List (ℕ × Decision))
  pub seats : List Seat
  pub max_clients : ℕ
  pub refused : ℕ

-- A turn was made between the two, from this world on, and answered that.
abbrev pub TurnMade : Config → ℕ → World → LoopValue → LoopValue → Turned → Type 0
TurnMade config limit w v v' turned =
    Turns config v.max_clients limit w v.calls v'.calls v'.server v.seats v'.seats turned

-- A turn failed between the two.
abbrev pub TurnFailed : Config → ℕ → World → LoopValue → LoopValue → Type 0
TurnFailed config limit w v v' = Fails config v.max_clients limit w v.calls v'.calls v'.server v.seats v'.seats
