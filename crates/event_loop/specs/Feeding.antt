-- The pass over a feed's port: its reads, and the records that become whole.
-- The loop is this project's own.
use Rattle.std.specs.Prelude.{◌≡◌, ℕ, zero, suc, ◌+◌, ◌-◌, ◌^◌, ◌<◌, ◌≤◌, ◌==◌, Bool, true, false, ◌&&◌, if◌then◌else◌}
use Rattle.std.specs.Prelude.{List}
use Rattle.std.specs.Prelude.{[], ◌∷◌, length, map, Option, Some, None, is_some}
use Rattle.protocol.specs.Catalog.{Config}
use Rattle.protocol.specs.Streams.{FeedRead, feed_from}
use Rattle.protocol.specs.World.{Event, World, world_from, accepted, step}
use Rattle.protocol.specs.World.Event.{Arrive}
use Rattle.server_core.specs.ServerValues.{ServerValue, StandsAt}
use Rattle.event_loop.specs.declared.seat.Role.TheVariants.{Feed as FeedRole}
use Rattle.event_loop.specs.declared.seat.Seat.{Seat}
use Rattle.ports.specs.Calls.Given.{Piece, Nothing, TheEnd, Failure}
use Rattle.event_loop.specs.Deeds.{Deed, Tally, refused_more}
use Rattle.event_loop.specs.Deeds.Deed.{ReadsFeed, ShutsFeed}
use Rattle.event_loop.specs.Passes.{beyond, unreadable}

-- ---- records that become whole

-- As many records arrived as can be counted.
abbrev pub is_full : World → Bool
is_full w = length w.history == 2 ^ 64 - 1

-- The record is answered that no more can be counted: it is no event.
abbrev pub is_exhausted : Config → World → List ℕ → Bool
is_exhausted config w r = is_some (accepted config r) && is_full w

-- the events that a record is
abbrev pub arrival : Config → World → List ℕ → List Event
arrival config w r = if is_exhausted config w r then [] else Arrive r ∷ []

-- the world after a record
abbrev pub world_with : Config → World → List ℕ → World
world_with config w r = world_from config w (arrival config w r)

-- a record that is refused counts as one
abbrev pub refusal : Config → World → List ℕ → ℕ
refusal config w r = if is_some (accepted config r) then (if is_full w then 1 else 0) else 1

-- of these records the ones that are events
abbrev pub countable : Config → World → List (List ℕ) → List (List ℕ)
countable config w [] = []
countable config w (r ∷ rs) =
    if is_exhausted config w r then countable config w rs else r ∷ countable config (step config w (Arrive r)) rs

-- how many of these records are refused
abbrev pub refusals : Config → World → List (List ℕ) → ℕ
refusals config w [] = 0
refusals config w (r ∷ rs) = refusal config w r + refusals config (world_with config w r) rs

-- the world after these records
abbrev pub world_fed : Config → World → List (List ℕ) → World
world_fed config w records = world_from config w (map Arrive (countable config w records))

-- The records arrived, and the refused ones among them were counted.
pub record Arrives (config : Config) (w : World) (records : List (List ℕ)) (server' : ServerValue)
    (refused refused' : ℕ) : Type 0 where
  pub stands : StandsAt server' config (world_fed config w records)
  pub counted : refused' ≡ refused_more refused (refusals config w records)

-- a feed's bytes with a piece more
abbrev pub fed : List ℕ → List ℕ → FeedRead
fed rest bytes = feed_from (record { records = []; rest = rest }) bytes

-- ---- the reads of a pass

-- a feed's seat
abbrev pub feed_seat : (port : ℕ) → (rest : List ℕ) → (readable writable : Bool) → Seat
feed_seat port rest readable writable =
    record { port = port; role = FeedRole rest; readable = readable; writable = writable }

-- the count, with so many refused records
abbrev pub feed_tally : (happenings refused : ℕ) → Tally
feed_tally happenings refused = record { happenings = happenings; refused = refused }

-- the deed that a piece is: it is at most so many bytes, and these records became whole by it
abbrev pub piece_read : Config → World → (port most : ℕ) → (rest bytes : List ℕ) → Deed
piece_read config w port most rest bytes =
    ReadsFeed port most (Piece bytes) (countable config w (fed rest bytes).records)
    (refusals config w (fed rest bytes).records)

-- The reads of a pass over a feed's port, of at most so many, lead to a world and a seat; there is none once the port
-- is shut. Each is made while the port may be read, and of at most 512 bytes; what is left over of the reads before is
-- less than a record.
pub data FeedReads (config : Config) : ℕ → World → Seat → List Deed → World → Option Seat → Type 0 where
  enough : {w : World} {s : Seat} → FeedReads config zero w s [] w (Some s)
  not_readable : {n : ℕ} {w : World} {s : Seat} → s.readable ≡ false → FeedReads config (suc n) w s [] w (Some s)
  piece : {n : ℕ} {w w' : World} {s : Seat} {o : Option Seat} {ds : List Deed} (most : ℕ) (rest bytes : List ℕ) →
      s.readable ≡ true → most ≤ 512 → s.role ≡ FeedRole rest → length rest < 512 → length bytes ≤ most →
      FeedReads config n (beyond config w (piece_read config w s.port most rest bytes))
      (record s { role = FeedRole (fed rest bytes).rest }) ds w' o →
      FeedReads config (suc n) w s (piece_read config w s.port most rest bytes ∷ ds) w' o
  later : {n : ℕ} {w : World} {s : Seat} (most : ℕ) → s.readable ≡ true → most ≤ 512 →
      FeedReads config (suc n) w s (ReadsFeed s.port most Nothing [] 0 ∷ []) w (Some (unreadable s))
  closed : {n : ℕ} {w : World} {s : Seat} (most : ℕ) → s.readable ≡ true → most ≤ 512 →
      FeedReads config (suc n) w s (ReadsFeed s.port most TheEnd [] 0 ∷ ShutsFeed s.port ∷ []) w None
  failed : {n : ℕ} {w : World} {s : Seat} (most : ℕ) → s.readable ≡ true → most ≤ 512 →
      FeedReads config (suc n) w s (ReadsFeed s.port most Failure [] 0 ∷ ShutsFeed s.port ∷ []) w None
