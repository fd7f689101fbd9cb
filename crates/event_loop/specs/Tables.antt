-- The seats of a loop: each port has one, and they rise by their ports' numbers.
-- The loop is this project's own.
use Rattle.std.specs.Prelude.{◌≡◌, ℕ, ◌<◌, ◌≤◌, false, if◌then◌else◌, List, [], ◌++◌, length, slice_index_or, Option}
use Rattle.protocol.specs.Catalog.{Config}
use Rattle.protocol.specs.World.{World}
use Rattle.server_core.specs.ServerValues.{ServerValue}
use Rattle.event_loop.specs.declared.seat.Role.TheVariants.{Feed as FeedRole}
use Rattle.event_loop.specs.declared.seat.Seat.{Seat}
use Rattle.ports.specs.Calls.{Call}
use Rattle.event_loop.specs.Deeds.{Deed, Tally, no_tally, one_more, world_beyond}
use Rattle.event_loop.specs.Going.{Does, GoesOn, Ends, Whole}
use Rattle.event_loop.specs.Hearing.{Hearing, Heard, End, heard, clients_in, feeds_in, is_client}
use Rattle.event_loop.specs.Hearing.End.{Limit, Quieted, Faulted}
use Rattle.event_loop.specs.declared.hearing.HeardInTurn.{HeardInTurn}
use Rattle.sl_io.specs.Counts.{IsMore}
use Rattle.event_loop.specs.declared.hearing.Heard.{Heard as HeardNext}
use Rattle.event_loop.specs.declared.hearing.Heard.TheVariants.{Happened, Quiet, Fault}
use Rattle.event_loop.specs.Turns.{Passes}

-- the seat where there is none
abbrev pub no_seat : Seat
no_seat = record { port = 0; role = FeedRole []; readable = false; writable = false }

-- the port of the seat at a place
abbrev pub port_at : List Seat → ℕ → ℕ
port_at ss i = let s : Seat = slice_index_or ss i no_seat in s.port

-- The ports rise, so that none has two seats.
abbrev pub AreRising : List Seat → Type 0
AreRising ss = (i j : ℕ) → i < j → j < length ss → port_at ss i < port_at ss j

-- The seat at a place is the port's.
pub record IsSeatOf (ss : List Seat) (port at : ℕ) : Type 0 where
  pub inside : at < length ss
  pub has_port : port_at ss at ≡ port

-- The port would be at a place: lower ones before it, and higher ones from it on.
pub record IsGapFor (ss : List Seat) (port at : ℕ) : Type 0 where
  pub inside : at ≤ length ss
  pub lower_before : (j : ℕ) → j < at → port_at ss j < port
  pub higher_after : (j : ℕ) → at ≤ j → j < length ss → port < port_at ss j

-- The seats rise, and at most so many are clients' and 16 feeds'.
pub record IsTable (max_clients : ℕ) (ss : List Seat) : Type 0 where
  pub rising : AreRising ss
  pub few_clients : clients_in ss ≤ max_clients
  pub few_feeds : feeds_in ss ≤ 16

-- A pass leaves whose a seat is.
pub record IsSameSeat (s s' : Seat) : Type 0 where
  pub port : s'.port ≡ s.port
  pub kind : is_client s'.role ≡ is_client s.role

-- ---- hearing, step by step

-- what is heard
abbrev pub HeardBy : Config → ℕ → ℕ → World → List Seat → List Deed → World → Heard → Type 0
HeardBy config max_clients n w ss ds w' o = Hearing config max_clients n w ss ds w' o

-- what the deeds of one happening do
abbrev pub HeardStep : Config → ℕ → World → List Seat → List Seat → List Deed → HeardNext → Type 0
HeardStep config max_clients w ss ss' deeds Happened = GoesOn (HeardBy config max_clients) config w ss ss' deeds
HeardStep config max_clients w ss ss' deeds Quiet =
    Ends (HeardBy config max_clients) config w ss deeds (heard ss' Quieted)
HeardStep config max_clients w ss ss' deeds Fault =
    Ends (HeardBy config max_clients) config w ss deeds (heard ss' Faulted)

-- the count with it
abbrev pub tally_next : Tally → HeardNext → Tally
tally_next t Happened = one_more t
tally_next t Quiet = t
tally_next t Fault = t

-- One call of `next` was heard.
pub record HearsOnce (config : Config) (max_clients : ℕ) (w : World) (calls calls' : Option (List Call))
    (server' : ServerValue)
    (t : Tally) (ss ss' : List Seat) (next : HeardNext) : Type 0 where
  pub deeds : List Deed
  pub does : Does config w calls calls' server' t (tally_next t next) deeds
  pub how : HeardStep config max_clients w ss ss' deeds next

-- The count of failures is one more at a fault, and else the same.
abbrev pub CountsFault : ℕ → ℕ → HeardNext → Type 0
CountsFault old new Happened = new ≡ old
CountsFault old new Quiet = new ≡ old
CountsFault old new Fault = IsMore old new 1

-- All was heard.
abbrev pub WholeHearing : Config → (max_clients limit : ℕ) → World → (calls calls' : Option (List Call)) → ServerValue
    → Tally → (ss ss' : List Seat) → End → Type 0
WholeHearing config max_clients limit w calls calls' server' t ss ss' end =
    Whole (HeardBy config max_clients) limit config w calls calls' server' no_tally t ss (heard ss' end)

-- the count of so many happenings
abbrev pub heard_so_far : ℕ → Tally
heard_so_far n = record { happenings = n; refused = 0 }

-- the count of what was heard, and why no more was
abbrev pub tally_heard_by : HeardInTurn → Tally
tally_heard_by in_turn = heard_so_far in_turn.happenings

abbrev pub heard_end : HeardInTurn → End
heard_end in_turn = if in_turn.quiet then Quieted else Limit

-- ---- passes, one after the other

-- So far these seats stay, and these are left.
pub record PassesSoFar (limit : ℕ) (config : Config) (w : World) (calls calls' : Option (List Call))
    (server' : ServerValue)
    (t t' : Tally) (ss before left : List Seat) : Type 0 where
  pub deeds : List Deed
  pub does : Does config w calls calls' server' t t' deeds
  pub how : (ds : List Deed) (w' : World) (ss' : List Seat) →
      Passes config limit (world_beyond config w deeds) left ds w' ss'
      → Passes config limit w ss (deeds ++ ds) w' (before ++ ss')

-- All passes were made.
pub record PassesAll (limit : ℕ) (config : Config) (w : World) (calls calls' : Option (List Call))
    (server' : ServerValue)
    (t t' : Tally) (ss ss' : List Seat) : Type 0 where
  pub deeds : List Deed
  pub does : Does config w calls calls' server' t t' deeds
  pub how : Passes config limit w ss deeds (world_beyond config w deeds) ss'
