-- How far the records of stations have come, by levels: each time that a station's level rises, a number is kept anew
-- for it. This project's own. Left out: which number is kept, and where.
use Rattle.std.specs.Prelude.{◌≡◌, ℕ, ◌+◌, ◌/◌, ◌%◌, ◌≤◌, ◌==◌, nat_lt, Bool, if◌then◌else◌, List}
use Rattle.std.specs.List.{sum_by}
use Rattle.protocol.specs.Catalog.{Config}
use Rattle.protocol.specs.History.{Arrival, count_of}
use Rattle.station_ring.specs.Rings.{RingValue}
use Rattle.station_ring.specs.HeldRecords.{RingsValue, AreBehind}

-- the level of so many records: it rises each 1,024 of them, from 8,192 on each 8,192, and from 65,536 on each 65,536
unfoldable pub level : ℕ → ℕ
level count = if nat_lt count 8192 then count / 1024
    else (if nat_lt count 65536 then count / 8192 + 7 else count / 65536 + 14)

-- The last of so many records raised the level.
unfoldable pub is_raise : ℕ → Bool
is_raise count = if nat_lt count 8192 then count % 1024 == 0
    else (if nat_lt count 65536 then count % 8192 == 0 else count % 65536 == 0)

-- the levels of all rings together, by how many records were pushed to each
abbrev pub raises_of : List RingValue → ℕ
raises_of rings = sum_by (λ r. level r.pushes) rings

-- the same of all that is held
abbrev pub raises_in : RingsValue → ℕ
raises_in v = raises_of v.rings

-- the same after a history
abbrev pub raises_after : Config → List Arrival → ℕ
raises_after config h = sum_by (λ e. level (count_of e.station h)) config.entries

-- what is true of the counts beside rings
pub record IsCounted (arrivals raises : ℕ) (rings : List RingValue) : Type 0 where
  pub behind : AreBehind arrivals rings
  pub raises_are : raises ≡ raises_of rings
  -- so that they can be counted
  pub few : raises ≤ arrivals
