-- What a search looks at of held records, beside them.
use Rattle.std.specs.Prelude.{◌≡◌, ℕ, ◌+◌, ◌<◌, List, length, slice_get, Some, None}
use Rattle.station_ring.specs.declared.held.Brief.{Brief}
use Rattle.station_ring.specs.declared.held.Held.{Held}
use Rattle.station_ring.specs.declared.held.Stream.{Stream}
use Rattle.station_ring.specs.declared.held.Summary.{Summary}
use Rattle.station_ring.specs.Rings.{RingValue, held_at}

-- the stream of a record
abbrev pub stream_of : Summary → Stream
stream_of x = record { location = x.location; channel = x.channel; kind = x.kind }

-- A brief tells of a record: its start, its end, and its stream, if that has a number. It has one while fewer than 64
-- streams have.
pub record Tells (streams : List Stream) (x : Held) (b : Brief) : Type 0 where
  pub start : b.start ≡ x.summary.start
  pub stop : b.stop ≡ x.summary.stop
  pub stream : (number : ℕ) → b.stream ≡ Some number → slice_get streams number ≡ Some (stream_of x.summary)
  pub numbered : length streams < 64 → b.stream ≡ None → ⊥

-- There are as many briefs as records, and each tells of the record at its index.
pub record AreBriefs (streams : List Stream) (held : List Held) (briefs : List Brief) : Type 0 where
  pub count : length briefs ≡ length held
  pub tell : (k : ℕ) (x : Held) (b : Brief) → slice_get held k ≡ Some x → slice_get briefs k ≡ Some b
      → Tells streams x b

-- The briefs tell of what a ring holds from a place on.
pub record TellFrom (r : RingValue) (place : ℕ) (streams : List Stream) (briefs : List Brief) : Type 0 where
  pub count : place + length briefs ≡ r.pushes
  pub tell : (k : ℕ) (x : Held) (b : Brief) → held_at r (place + k) ≡ Some x → slice_get briefs k ≡ Some b
      → Tells streams x b
