use Rattle.std.proofs.Common.{◌≡◌, ℕ, ◌+◌, ◌<◌, ◌≤◌, get_or}
use Rattle.server_watch.proofs.minutes.shift.Given as goal

abbrev pub invariant-loop-at : goal.invariant-loop-at
invariant-loop-at l =
    ((k : ℕ) → k < l.at → get_or l.counts k 0 ≡ get_or l.initial.counts (k + l.by) 0)
    × ((k : ℕ) → l.at ≤ k → get_or l.counts k 0 ≡ get_or l.initial.counts k 0)
