-- How many records of a station came in each of the last 60 minutes. This project's own.
use Rattle.std.specs.Prelude.{ℕ, ◌+◌, ◌-◌, ◌^◌, min, max, List, ◌++◌, drop, replicate, slice_index, slice_set}
use Rattle.server_watch.specs.declared.minutes.MinuteCounts.{MinuteCounts}

-- none in any minute
abbrev pub no_minutes : MinuteCounts
no_minutes = record { counts = replicate 60 0; minute = 0 }

-- the counts once so many minutes are over: those after them come forward, and none came since
abbrev pub shifted : (by : ℕ) → List ℕ → List ℕ
shifted by counts = drop by counts ++ replicate by 0

-- the counts at a minute, or at a later one that was reached before
abbrev pub reached : (minute : ℕ) → MinuteCounts → MinuteCounts
reached minute m =
    record { counts = shifted (min (minute - m.minute) 60) m.counts; minute = max m.minute minute }

-- the counts with so many more in the last minute; they stay at 2^32 - 1
abbrev pub with_more : (came : ℕ) → List ℕ → List ℕ
with_more came counts = slice_set counts 59 (min (slice_index counts 59 + min came (2 ^ 32 - 1)) (2 ^ 32 - 1))

-- the counts once so many records came in a minute
abbrev pub counted : (minute came : ℕ) → MinuteCounts → MinuteCounts
counted minute came m =
    record { counts = with_more came (reached minute m).counts; minute = (reached minute m).minute }
