-- The numbers that are kept for a later run, ahead of those that are given: a number that was given before is then not
-- held after it. What is kept of a station depends on its own records alone.
-- SeedLink 3, sequence numbers. Left out: where they are kept.
use Rattle.std.specs.Prelude.{ℕ, ◌+◌, ◌*◌, ◌/◌, ◌%◌, nat_lt, if◌then◌else◌, List, map}
use Rattle.protocol.specs.Packet.{numbers}
use Rattle.protocol.specs.Catalog.{Config}
use Rattle.protocol.specs.History.{Arrival, count_of}
use Rattle.station_ring.specs.HeldRecords.{RingsValue}
use Rattle.serving.specs.declared.ahead.NumbersAhead.{NumbersAhead as Numbers}

-- how far they are ahead at most
abbrev pub room : ℕ
room = 131072

-- how far the kept number is after the first one, where so many records of the station came: by more than the 1,024
-- that a turn brings at most, and by so much more the more it has that all seldom wait for the disk
unfoldable pub ahead : ℕ → ℕ
ahead count = if nat_lt count 8192 then 1024 * (count / 1024 + 2)
    else (if nat_lt count 65536 then 8192 * (count / 8192 + 2) else 65536 * (count / 65536 + 2))

-- the number that is kept of a station, by its first one and by how many of its records came
abbrev pub number_ahead : (first count : ℕ) → ℕ
number_ahead first count = (first + ahead count) % numbers

-- those of all stations after a history, in the order of the configuration
abbrev pub numbers_ahead : Config → List Arrival → List ℕ
numbers_ahead config h = map (λ e. number_ahead e.station.first (count_of e.station h)) config.entries

-- the same by the rings
abbrev pub ahead_in : RingsValue → List ℕ
ahead_in v = map (λ r. number_ahead r.first r.pushes) v.rings

-- the same as they are lent
abbrev pub ahead_of : Numbers → List ℕ
ahead_of n = ahead_in n.rings.now
