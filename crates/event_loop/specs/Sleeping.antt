-- Seats that sleep: their passes make no call.
-- The loop is this project's own.
use Rattle.std.specs.Prelude.{◌≡◌, ◌≢◌, ℕ, ◌<◌, ◌≤◌, true, false, List, length, slice_index_or, Some, is_some}
use Rattle.server_core.specs.ServerValues.{ServerValue, mark_at}
use Rattle.event_loop.specs.declared.seat.Role.{Role}
use Rattle.event_loop.specs.declared.seat.Role.TheVariants.{Client as ClientRole}
use Rattle.event_loop.specs.declared.seat.Seat.{Seat}
use Rattle.event_loop.specs.declared.seats.Seats.{Seats}
use Rattle.event_loop.specs.Hearing.{feeds_in}
use Rattle.event_loop.specs.Tables.{IsTable, no_seat}

-- A seat sleeps: its port may not be read, and it is not a client's that may be written to and is marked.
pub record IsAsleep (server : ServerValue) (s : Seat) : Type 0 where
  pub unreadable : s.readable ≡ false
  pub unmarked : (k : ℕ) → s.role ≡ ClientRole k → s.writable ≡ true → mark_at server k ≡ Some false

-- the seat at a place
abbrev pub seat_at : List Seat → ℕ → Seat
seat_at ss i = slice_index_or ss i no_seat

-- whose the seat at a place is
abbrev pub role_at : List Seat → ℕ → Role
role_at ss i = let s : Seat = seat_at ss i in s.role

-- There is a byte for each seat, and each seat but those with a 1 sleeps.
pub record AreKnown (server : ServerValue) (ss : List Seat) (awake : List ℕ) : Type 0 where
  pub count : length awake ≡ length ss
  pub asleep : (i : ℕ) → i < length ss → slice_index_or awake i 0 ≢ 1 → IsAsleep server (seat_at ss i)

-- No client has two seats, and each has opened.
pub record AreSeated (server : ServerValue) (ss : List Seat) : Type 0 where
  pub apart : (i j k : ℕ) → i < length ss → j < length ss → role_at ss i ≡ ClientRole k → role_at ss j ≡ ClientRole k
      → i ≡ j
  pub opened : (i k : ℕ) → i < length ss → role_at ss i ≡ ClientRole k → k < length server.sessions

-- A pass over a seat leaves the marks of all clients but its own, if it was quiet: no record came by it.
pub record LeavesRest (s : Seat) (WasQuiet : Type 0) (old new : ServerValue) : Type 0 where
  pub marks : WasQuiet → (k : ℕ) → s.role ≢ ClientRole k → mark_at new k ≡ mark_at old k
  pub kept : (k : ℕ) → s.role ≢ ClientRole k → is_some (mark_at new k) ≡ is_some (mark_at old k)
  pub count : length new.sessions ≡ length old.sessions

-- As many records arrived before and after.
abbrev pub NoneArrived : (old new : ServerValue) → Type 0
NoneArrived old new = new.rings.arrivals ≡ old.rings.arrivals

-- Records arrived, or nothing changed.
pub record IsQuiet (old new : ServerValue) : Type 0 where
  pub rises : old.rings.arrivals ≤ new.rings.arrivals
  pub same : NoneArrived old new → new ≡ old
  pub kept : (k : ℕ) → is_some (mark_at new k) ≡ is_some (mark_at old k)
  pub count : length new.sessions ≡ length old.sessions

-- Bytes are as they were, or 1.
pub record OnlyWakes (awake awake' : List ℕ) : Type 0 where
  pub count : length awake' ≡ length awake
  pub bytes : (i : ℕ) → slice_index_or awake' i 0 ≢ 1 → slice_index_or awake i 0 ≢ 1

-- The seat of a client does not sleep, where it has one.
abbrev pub IsWoken : List Seat → List ℕ → ℕ → Type 0
IsWoken ss awake k = (i : ℕ) → i < length ss → role_at ss i ≡ ClientRole k → slice_index_or awake i 0 ≡ 1

-- The seats of all clients that are marked do not sleep.
abbrev pub AreWoken : ServerValue → List Seat → List ℕ → Type 0
AreWoken server ss awake = (k : ℕ) → mark_at server k ≡ Some true → IsWoken ss awake k

-- The seat at a place is the client's.
pub record IsSeatOfClient (ss : List Seat) (k at : ℕ) : Type 0 where
  pub inside : at < length ss
  pub role : role_at ss at ≡ ClientRole k

-- The seat at a place is that of such a client.
pub record IsSeatOfOne (Of : ℕ → Type 0) (ss : List Seat) (at : ℕ) : Type 0 where
  pub client : ℕ
  pub is_one : Of client
  pub role : role_at ss at ≡ ClientRole client

-- Only bytes of the seats of such clients change.
abbrev pub WakesOnly : (ℕ → Type 0) → List Seat → (awake awake' : List ℕ) → Type 0
WakesOnly Of ss awake awake' =
    (at : ℕ) → slice_index_or awake' at 0 ≢ slice_index_or awake at 0 → IsSeatOfOne Of ss at

-- What a loop keeps true of its seats: they rise by port and are not too many, those of sleeping ports are known, no
-- client has two, and so many are feeds'.
pub record AreKept (server : ServerValue) (seats : Seats) : Type 0 where
  pub table : IsTable seats.max_clients seats.all.items
  pub known : AreKnown server seats.all.items seats.awake.items
  pub seated : AreSeated server seats.all.items
  pub feeds : seats.feeds ≡ feeds_in seats.all.items
