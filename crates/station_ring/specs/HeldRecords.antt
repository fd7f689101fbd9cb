-- What a server holds of all that arrived: a ring for each station, of that station's arrivals.
-- SeedLink 3, sequence numbers. Left out: which records are accepted.
use Rattle.std.specs.Prelude.{◌≡◌, ℕ, ◌+◌, ◌<◌, ◌≤◌, ◌==◌, if◌then◌else◌, unwrap_or, Some, List, [], ◌∷◌, length, map}
use Rattle.std.specs.Prelude.{◌≢◌, None, slice_get, true, All}
use Rattle.protocol.specs.Record.{Facts}
use Rattle.protocol.specs.Catalog.{Config, Station}
use Rattle.protocol.specs.History.{Arrival, is_of, number_at}
use Rattle.station_ring.specs.declared.held.Held.{Held}
use Rattle.station_ring.specs.declared.held.Summary.{Summary}
use Rattle.station_ring.specs.Rings.{RingValue, Grows, first_place, held_at, holding_of, number_at as number_in_ring}
use Rattle.station_ring.specs.Rings.{place_with}

-- a ring for each station, and how many records arrived
pub record RingsValue : Type 0 where
  pub rings : List RingValue
  pub arrivals : ℕ

-- ---- what is held of a history

-- what is kept of a record's facts
abbrev pub summary_of : Facts → Summary
summary_of x = record { start = x.start; stop = x.stop; kind = x.kind; location = x.location; channel = x.channel }

-- the arrival at a position, as it is held: its stamp is the position
abbrev pub held_of : ℕ → Arrival → Held
held_of p a = record { stamp = p; bytes = a.bytes; summary = summary_of a.facts }

-- the arrivals of a station, where the first of all is at position p
abbrev pub arrivals_of : Station → ℕ → List Arrival → List Held
arrivals_of s p [] = []
arrivals_of s p (a ∷ later) = if is_of s a then held_of p a
    ∷ arrivals_of s (p + 1) later else arrivals_of s (p + 1) later

-- what a station's ring holds
abbrev pub ring_of : Station → List Arrival → RingValue
ring_of s h = holding_of s.capacity s.first (arrivals_of s 0 h)

-- what is held of a history; contracts need not look into it
unfoldable pub holdings_of : Config → List Arrival → RingsValue
holdings_of config h = record { rings = map (λ e. ring_of e.station h) config.entries; arrivals = length h }

-- ---- the numbers that come next

-- the number that the next record of each station is to have, by the rings
abbrev pub next_numbers : RingsValue → List ℕ
next_numbers v = map (λ r. number_in_ring r r.pushes) v.rings

-- the same after a history, in the order of the configuration
abbrev pub numbers_after : Config → List Arrival → List ℕ
numbers_after config h = map (λ e. number_at e.station h (length h)) config.entries

-- ---- what a held record is

-- A held record is the arrival of a station at the position that is its stamp, and has that number.
pub record IsArrival (s : Station) (h : List Arrival) (number : ℕ) (x : Held) : Type 0 where
  pub arrival : Arrival
  pub is_there : slice_get h x.stamp ≡ Some arrival
  pub of_station : is_of s arrival ≡ true
  pub bytes : x.bytes ≡ arrival.bytes
  pub number_is : number ≡ number_at s h x.stamp

-- ---- what is true of rings

-- A ring holds and has counted fewer records than arrived.
pub record IsBehind (arrivals : ℕ) (r : RingValue) : Type 0 where
  pub pushes : r.pushes ≤ arrivals
  pub stamps : All (λ h. h.stamp < arrivals) r.held

-- the same of each ring
abbrev pub AreBehind : ℕ → List RingValue → Type 0
AreBehind arrivals rings = All (IsBehind arrivals) rings

-- ---- places and positions

-- the place at which a request for a number begins: the held place with the number; else the next one, if that is to
-- have the number; else the oldest
abbrev pub place_from : RingValue → ℕ → ℕ
place_from r number = unwrap_or (place_with r number)
    (if number_in_ring r r.pushes == number then r.pushes else first_place r)

-- What a ring holds before a place arrived before a position.
pub record IsBefore (r : RingValue) (place position : ℕ) : Type 0 where
  pub stamps : (earlier : ℕ) (x : Held) → earlier < place → held_at r earlier ≡ Some x → x.stamp < position

-- ---- two moments

-- A ring was there before, among rings at its place, and has grown.
pub record WasThere (before : List RingValue) (place : ℕ) (r : RingValue) : Type 0 where
  pub ring : RingValue
  pub is_there : slice_get before place ≡ Some ring
  pub grows : Grows ring r

-- the same of each ring
abbrev pub AllGrow : List RingValue → List RingValue → Type 0
AllGrow before after = (place : ℕ) (r : RingValue) → slice_get after place ≡ Some r → WasThere before place r

-- Of no two rings together more than one record more was pushed, and no ring is new.
pub record GrowByOne (before after : List RingValue) : Type 0 where
  pub two : (i j : ℕ) (a b x y : RingValue) → i ≢ j → slice_get before i ≡ Some a → slice_get after i ≡ Some b
      → slice_get before j ≡ Some x → slice_get after j ≡ Some y → b.pushes + y.pushes ≤ a.pushes + x.pushes + 1
  pub nowhere : (i : ℕ) → slice_get after i ≡ None → slice_get before i ≡ None
