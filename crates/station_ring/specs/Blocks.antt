-- Where the records of a station lie: in a block of a fixed size, which is filled from its first place on, and then
-- written over, the oldest first. Left out: what a record is.
use Rattle.std.specs.Prelude.{◌≡◌, ℕ, ◌+◌, ◌-◌, ◌<◌, ◌≤◌, nat_lt, if◌then◌else◌, List, ◌++◌, length, drop, take}

-- what contracts see of it: the items, the oldest first, and how many there may be
pub record Buffer (X : Type 0) : Type 0 where
  pub items : List X
  pub capacity : ℕ

abbrev pub buffer : {X : Type 0} → List X → ℕ → Buffer X
buffer items capacity = record { items = items; capacity = capacity }

-- the last n items
abbrev pub keep_last : {X : Type 0} → ℕ → List X → List X
keep_last n items = drop (length items - n) items

-- the items of a block from the oldest on, which lies at a place
abbrev pub from_oldest : {X : Type 0} → ℕ → List X → List X
from_oldest oldest items = drop oldest items ++ take oldest items

-- the place after one, in a block of so many
abbrev pub place_after : ℕ → ℕ → ℕ
place_after place capacity = if nat_lt (place + 1) capacity then place + 1 else 0

-- What is true of where the oldest lies, among so many items: a block that is not full begins with it.
pub record IsFilled (oldest count capacity : ℕ) : Type 0 where
  pub oldest_place : oldest < capacity
  pub few : count ≤ capacity
  pub first : count < capacity → oldest ≡ 0
