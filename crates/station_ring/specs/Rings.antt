-- The records that a station holds: of all that were pushed, the last ones. A place is the count of pushes before a
-- record. SeedLink 3, sequence numbers. Left out: where the records lie.
use Rattle.std.specs.Prelude.{◌≡◌, ℕ, ◌+◌, ◌-◌, ◌%◌, ◌<◌, ◌≤◌, nat_le, ◌==◌, if◌then◌else◌, min, max, suc, zero, List}
use Rattle.std.specs.Prelude.{[], ◌∷◌, ◌++◌, length, drop, slice_get, AllPairs, Option, Some, None}
use Rattle.std.specs.Option.{option_map}
use Rattle.protocol.specs.Packet.{numbers}
use Rattle.station_ring.specs.declared.held.Held.{Held}

-- what a ring holds, of how many pushes
pub record RingValue : Type 0 where
  pub capacity : ℕ
  -- the number of the first record that was pushed
  pub first : ℕ
  -- how many records were pushed
  pub pushes : ℕ
  -- the last of them, the oldest first
  pub held : List Held

-- Each stamp is greater than all before it.
abbrev pub AreRising : List Held → Type 0
AreRising held = AllPairs (λ earlier later. earlier.stamp < later.stamp) held

-- what is true of what a ring holds
pub record IsRing (r : RingValue) : Type 0 where
  pub some_capacity : 1 ≤ r.capacity
  pub small_capacity : r.capacity ≤ 65536
  pub first_number : r.first < numbers
  pub count : length r.held ≡ min r.pushes r.capacity
  pub rising : AreRising r.held

-- ---- pushes

-- a ring to which nothing was pushed
abbrev pub empty : (capacity first : ℕ) → RingValue
empty capacity first = record { capacity = capacity; first = first; pushes = 0; held = [] }

-- the last n items of a list
abbrev pub last_of : ℕ → List Held → List Held
last_of n items = drop (length items - n) items

-- after one push more
abbrev pub pushed : RingValue → Held → RingValue
pushed r item = record r { pushes = r.pushes + 1; held = last_of r.capacity (r.held ++ item ∷ []) }

-- after pushes, one by one
abbrev pub pushed_all : RingValue → List Held → RingValue
pushed_all r [] = r
pushed_all r (item ∷ items) = pushed_all (pushed r item) items

-- what a ring holds by the list of all that was pushed
abbrev pub holding_of : (capacity first : ℕ) → List Held → RingValue
holding_of capacity first items =
    record { capacity = capacity; first = first; pushes = length items; held = last_of capacity items }

-- ---- places and numbers

-- the place of the oldest held record, or of the next one where none is held
abbrev pub first_place : RingValue → ℕ
first_place r = r.pushes - length r.held

-- the place of the oldest held record
abbrev pub oldest_place : RingValue → Option ℕ
oldest_place r = if length r.held == 0 then None else Some (first_place r)

-- the number of the record at a place: one more for each record, and 0 after the last number
abbrev pub number_at : RingValue → ℕ → ℕ
number_at r place = (r.first + place) % numbers

-- the first place with the number, of so many places from one on
abbrev pub place_among : (first number place count : ℕ) → Option ℕ
place_among first number place zero = None
place_among first number place (suc count) =
    if (first + place) % numbers == number then Some place else place_among first number (place + 1) count

-- the held place with the number
abbrev pub place_with : RingValue → ℕ → Option ℕ
place_with r number = place_among r.first number (first_place r) (length r.held)

-- the held record at a place
abbrev pub held_at : RingValue → ℕ → Option Held
held_at r place = if nat_le (first_place r) place then slice_get r.held (place - first_place r) else None

-- the least held place that is not below that one, with its record
abbrev pub held_from : RingValue → ℕ → Option (ℕ × Held)
held_from r place = option_map (λ h. (max place (first_place r), h)) (held_at r (max place (first_place r)))

-- ---- two moments

-- A ring before and after pushes: at a place that was pushed before, it holds nothing else than it did, and without a
-- push it is the same.
pub record Grows (before after : RingValue) : Type 0 where
  pub pushes : before.pushes ≤ after.pushes
  pub held : (place : ℕ) (x : Held) → place < before.pushes → held_at after place ≡ Some x
      → held_at before place ≡ Some x
  pub same : after.pushes ≡ before.pushes → after ≡ before
