use Rattle.std.proofs.Common.{◌≤◌, ◌-◌, length}
use Rattle.event_loop.proofs.waking.halved.Given as goal

abbrev pub invariant-halves : goal.invariant-halves
invariant-halves l = l.high ≤ length l.seats

abbrev pub decreases-halves : goal.decreases-halves
decreases-halves l = l.high - l.low
