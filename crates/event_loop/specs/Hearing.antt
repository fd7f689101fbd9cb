-- What a loop hears of its ports, and which ports are open after it.
-- The loop is this project's own. Left out: why a new port is turned away.
use Rattle.std.specs.Prelude.{◌≡◌, ℕ, zero, suc, ◌<◌, ◌==◌, nat_lt, Bool, true, false, if◌then◌else◌, List, [], ◌∷◌}
use Rattle.std.specs.Prelude.{map, count_by, length, Ok, Err}
use Rattle.std.specs.List.{list_any}
use Rattle.std.specs.declared.net.ipv4_addr.Ipv4Addr.{Ipv4Addr}
use Rattle.protocol.specs.Catalog.{Config}
use Rattle.protocol.specs.World.{World}
use Rattle.event_loop.specs.declared.seat.Role.{Role}
use Rattle.event_loop.specs.declared.seat.Role.TheVariants.{Client as ClientRole, Feed as FeedRole}
use Rattle.event_loop.specs.declared.seat.Seat.{Seat}
use Rattle.ports.specs.declared.answers.Happening.{Happening}
use Rattle.ports.specs.declared.answers.Happening.TheVariants.{Joined, JoinedFeed, Readable, Writable, Quiet}
use Rattle.ports.specs.declared.answers.PortFault.{PortFault}
use Rattle.event_loop.specs.Deeds.{Deed}
use Rattle.event_loop.specs.Deeds.Deed.{Hears, Opens, Feeds, TurnsAway}
use Rattle.event_loop.specs.Passes.{beyond}

-- whose a seat is
abbrev pub is_client : Role → Bool
is_client (ClientRole k) = true
is_client (FeedRole rest) = false

-- It is the client's with a number.
abbrev pub is_of : ℕ → Role → Bool
is_of number (ClientRole k) = k == number
is_of number (FeedRole rest) = false

-- how many clients' ports, and how many feeds' ports, are open
abbrev pub clients_in : List Seat → ℕ
clients_in seats = count_by (λ s. is_client s.role) seats

abbrev pub feeds_in : List Seat → ℕ
feeds_in seats = count_by (λ s. if is_client s.role then false else true) seats

-- The port is open.
abbrev pub is_seated : ℕ → List Seat → Bool
is_seated port seats = list_any (λ s. s.port == port) seats

-- a new seat among the others, by rising number
abbrev pub open_client : Seat → List Seat → List Seat
open_client new [] = new ∷ []
open_client new (s ∷ seats) = if nat_lt new.port s.port then new ∷ s ∷ seats else s ∷ open_client new seats

-- a port that has just joined
abbrev pub joining : (port : ℕ) → Role → Seat
joining port role = record { port = port; role = role; readable = true; writable = true }

-- a seat that may be read, or written to, where it is that port's
abbrev pub readable_at : ℕ → Seat → Seat
readable_at port s = if s.port == port then record s { readable = true } else s

abbrev pub writable_at : ℕ → Seat → Seat
writable_at port s = if s.port == port then record s { writable = true } else s

-- the seats once something else than a new port happened; a port that is open is not joined again
abbrev pub marked : Happening → List Seat → List Seat
marked (Readable port) seats = map (readable_at port) seats
marked (Writable port) seats = map (writable_at port) seats
marked _ seats = seats

-- Nothing new comes of a happening: it is of a port that is open already, or marks one.
abbrev pub is_old : Happening → List Seat → Bool
is_old (Joined port address) seats = is_seated port seats
is_old (JoinedFeed port) seats = is_seated port seats
is_old (Readable port) seats = true
is_old (Writable port) seats = true
is_old Quiet seats = false

-- why no more is heard
pub data End : Type 0 where
  -- so many happenings were taken
  Limit : End
  Quieted : End
  Faulted : End

-- the seats after it, and why no more was heard
pub record Heard : Type 0 where
  pub seats : List Seat
  pub end : End

abbrev pub heard : List Seat → End → Heard
heard seats end = record { seats = seats; end = end }

-- What is heard, of at most so many happenings, leads to a world and the seats after it.
pub data Hearing (config : Config) (max_clients : ℕ) : ℕ → World → List Seat → List Deed → World → Heard → Type 0 where
  enough : {w : World} {ss : List Seat} → Hearing config max_clients zero w ss [] w (heard ss Limit)
  quiet : {n : ℕ} {w : World} {ss : List Seat}
      → Hearing config max_clients (suc n) w ss (Hears (Ok Quiet) ∷ []) w (heard ss Quieted)
  fault : {n : ℕ} {w : World} {ss : List Seat} (f : PortFault)
      → Hearing config max_clients (suc n) w ss (Hears (Err f) ∷ []) w (heard ss Faulted)
  marks : {n : ℕ} {w w' : World} {ss : List Seat} {ds : List Deed} {o : Heard} (happening : Happening)
      → is_old happening ss ≡ true →
      Hearing config max_clients n w (marked happening ss) ds w' o →
      Hearing config max_clients (suc n) w ss (Hears (Ok happening) ∷ ds) w' o
  opens : {n : ℕ} {w w' : World} {ss : List Seat} {ds : List Deed} {o : Heard} (port : ℕ) (address : Ipv4Addr) →
      is_seated port ss ≡ false → clients_in ss < max_clients →
      Hearing config max_clients n (beyond config w (Opens port address))
      (open_client (joining port (ClientRole (length w.connections))) ss) ds w' o →
      Hearing config max_clients (suc n) w ss (Opens port address ∷ ds) w' o
  feeds : {n : ℕ} {w w' : World} {ss : List Seat} {ds : List Deed} {o : Heard} (port : ℕ) →
      is_seated port ss ≡ false → feeds_in ss < 16 →
      Hearing config max_clients n w (open_client (joining port (FeedRole [])) ss) ds w' o →
      Hearing config max_clients (suc n) w ss (Feeds port ∷ ds) w' o
  turns_away : {n : ℕ} {w w' : World} {ss : List Seat} {ds : List Deed} {o : Heard} (port : ℕ) (address : Ipv4Addr) →
      is_seated port ss ≡ false → Hearing config max_clients n w ss ds w' o →
      Hearing config max_clients (suc n) w ss (TurnsAway (Joined port address) port ∷ ds) w' o
  turns_away_feed : {n : ℕ} {w w' : World} {ss : List Seat} {ds : List Deed} {o : Heard} (port : ℕ) →
      is_seated port ss ≡ false → Hearing config max_clients n w ss ds w' o →
      Hearing config max_clients (suc n) w ss (TurnsAway (JoinedFeed port) port ∷ ds) w' o
