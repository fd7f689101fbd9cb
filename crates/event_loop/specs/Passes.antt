-- How a loop goes through its ports: each port's pass by itself.
-- The loop is this project's own.
use Rattle.std.specs.Prelude.{◌≡◌, ℕ, zero, suc, ◌≤◌, ◌<◌, Bool, true, false, List, [], ◌∷◌, ◌++◌, length, Option, Some}
use Rattle.std.specs.Prelude.{None, option_map, unwrap_or, Ok, Err}
use Rattle.protocol.specs.Catalog.{Config}
use Rattle.protocol.specs.World.{World, world_from, taken_by}
use Rattle.server_core.specs.Filling.{client_at, lent_to}
use Rattle.server_core.specs.Refusals.{room_of}
use Rattle.event_loop.specs.declared.seat.Role.TheVariants.{Client as ClientRole}
use Rattle.event_loop.specs.declared.seat.Seat.{Seat}
use Rattle.ports.specs.declared.answers.Put.TheVariants.{Took, Later as LaterPut}
use Rattle.ports.specs.declared.answers.PortFault.{PortFault}
use Rattle.ports.specs.Calls.Given.{Piece, Nothing, TheEnd, Failure}
use Rattle.event_loop.specs.Deeds.{Deed, events_of}
use Rattle.event_loop.specs.Deeds.Deed.{Reads, Writes, Offers, Closes}

-- how many bytes the k-th client may send
abbrev pub room_in : World → ℕ → ℕ
room_in w k = unwrap_or (option_map room_of (client_at w k)) 0

-- The k-th client's connection is over: an offer finds that nothing waits in its end.
abbrev pub is_over_in : World → ℕ → Bool
is_over_in w k = (taken_by w.history (client_at w k) 0).ended

-- the world after a deed
abbrev pub beyond : Config → World → Deed → World
beyond config w deed = world_from config w (events_of deed)

-- a seat that may be read no more, or not be written to
abbrev pub unreadable : Seat → Seat
unreadable s = record s { readable = false }

abbrev pub unwritable : Seat → Seat
unwritable s = record s { writable = false }

-- A port of a client may be read.
abbrev pub MayRead : World → ℕ → Seat → Type 0
MayRead w k s = (s.role ≡ ClientRole k) × (s.readable ≡ true) × (0 < room_in w k)

-- The reads of a pass over the port of client k, of at most so many, lead to a world and a seat; there is none once the
-- port is shut. Each is made while the port may be read, and of no more bytes than the client may send.
pub data ClientReads (config : Config) (k : ℕ) : ℕ → World → Seat → List Deed → World → Option Seat → Type 0 where
  -- so many were made
  enough : {w : World} {s : Seat} → ClientReads config k zero w s [] w (Some s)
  -- it may not be read
  not_readable : {n : ℕ} {w : World} {s : Seat} → s.readable ≡ false → ClientReads config k (suc n) w s [] w (Some s)
  no_room : {n : ℕ} {w : World} {s : Seat} → room_in w k ≡ 0 → ClientReads config k (suc n) w s [] w (Some s)
  -- bytes came
  piece : {n : ℕ} {w w' : World} {s : Seat} {o : Option Seat} {ds : List Deed} (most : ℕ) (bytes : List ℕ) →
      MayRead w k s → most ≤ room_in w k →
      ClientReads config k n (beyond config w (Reads k s.port most (Piece bytes))) s ds w' o →
      ClientReads config k (suc n) w s (Reads k s.port most (Piece bytes) ∷ ds) w' o
  -- nothing for now
  later : {n : ℕ} {w : World} {s : Seat} (most : ℕ) → MayRead w k s → most ≤ room_in w k →
      ClientReads config k (suc n) w s (Reads k s.port most Nothing ∷ []) w (Some (unreadable s))
  -- nothing more, or a failure: the port is shut
  closed : {n : ℕ} {w : World} {s : Seat} (most : ℕ) → MayRead w k s → most ≤ room_in w k →
      ClientReads config k (suc n) w s (Reads k s.port most TheEnd ∷ Closes k s.port ∷ [])
      (beyond config w (Closes k s.port)) None
  failed : {n : ℕ} {w : World} {s : Seat} (most : ℕ) → MayRead w k s → most ≤ room_in w k →
      ClientReads config k (suc n) w s (Reads k s.port most Failure ∷ Closes k s.port ∷ [])
      (beyond config w (Closes k s.port)) None

-- A port of a client may be written to, and all that waits for the client is offered to it.
pub record MayWrite (w : World) (k : ℕ) (s : Seat) (bytes : List ℕ) : Type 0 where
  pub role : s.role ≡ ClientRole k
  pub writable : s.writable ≡ true
  pub some : 0 < length bytes
  pub all : lent_to w k ≡ bytes

-- The writes of a pass over the port of client k, likewise.
pub data ClientWrites (config : Config) (k : ℕ) : ℕ → World → Seat → List Deed → World → Option Seat → Type 0 where
  enough : {w : World} {s : Seat} → ClientWrites config k zero w s [] w (Some s)
  not_writable : {n : ℕ} {w : World} {s : Seat} → s.writable ≡ false → ClientWrites config k (suc n) w s [] w (Some s)
  -- nothing waits, and nothing can
  idle : {n : ℕ} {w : World} {s : Seat} → s.writable ≡ true → lent_to w k ≡ [] → is_over_in w k ≡ false →
      ClientWrites config k (suc n) w s (Offers k ∷ []) (beyond config w (Offers k)) (Some s)
  -- the client's connection is over
  ended : {n : ℕ} {w : World} {s : Seat} → s.writable ≡ true → is_over_in w k ≡ true →
      ClientWrites config k (suc n) w s (Offers k ∷ Closes k s.port ∷ [])
      (world_from config w (events_of (Offers k) ++ events_of (Closes k s.port))) None
  -- some bytes were taken
  took : {n : ℕ} {w w' : World} {s : Seat} {o : Option Seat} {ds : List Deed} (bytes : List ℕ) (count : ℕ) →
      MayWrite w k s bytes → 0 < count → count ≤ length bytes →
      ClientWrites config k n (beyond config w (Writes k s.port bytes (Ok (Took count)))) s ds w' o →
      ClientWrites config k (suc n) w s (Writes k s.port bytes (Ok (Took count)) ∷ ds) w' o
  -- none were
  took_none : {n : ℕ} {w : World} {s : Seat} (bytes : List ℕ) → MayWrite w k s bytes →
      ClientWrites config k (suc n) w s (Writes k s.port bytes (Ok (Took 0)) ∷ [])
      (beyond config w (Writes k s.port bytes (Ok (Took 0)))) (Some s)
  later : {n : ℕ} {w : World} {s : Seat} (bytes : List ℕ) → MayWrite w k s bytes →
      ClientWrites config k (suc n) w s (Writes k s.port bytes (Ok LaterPut) ∷ [])
      (beyond config w (Writes k s.port bytes (Ok LaterPut))) (Some (unwritable s))
  failed : {n : ℕ} {w : World} {s : Seat} (bytes : List ℕ) (fault : PortFault) → MayWrite w k s bytes →
      ClientWrites config k (suc n) w s (Writes k s.port bytes (Err fault) ∷ Closes k s.port ∷ [])
      (world_from config w (events_of (Writes k s.port bytes (Err fault)) ++ events_of (Closes k s.port))) None

-- The writes that follow the reads, where the port was not shut.
abbrev pub WritesAfter : Config → ℕ → ℕ → World → Option Seat → List Deed → World → Option Seat → Type 0
WritesAfter config k limit w None ds w' o = (ds ≡ []) × (w' ≡ w) × (o ≡ None)
WritesAfter config k limit w (Some s) ds w' o = ClientWrites config k limit w s ds w' o

-- the pass over a client's port: its reads, and then its writes
pub record ClientPass (config : Config) (k limit : ℕ) (w : World) (s : Seat) (ds : List Deed) (w' : World)
    (o : Option Seat) : Type 0 where
  pub reads : List Deed
  pub writes : List Deed
  pub between : World
  pub seat : Option Seat
  pub whole : ds ≡ reads ++ writes
  pub first : ClientReads config k limit w s reads between seat
  pub then_ : WritesAfter config k limit between seat writes w' o
