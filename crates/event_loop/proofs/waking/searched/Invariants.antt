use Rattle.std.proofs.Common.{◌≢◌, ℕ, ◌<◌}
use Rattle.event_loop.specs.Sleeping.{role_at}
use Rattle.event_loop.specs.declared.seat.Role.TheVariants.{Client}
use Rattle.event_loop.proofs.waking.searched.Given as goal

abbrev pub invariant-loop-at : goal.invariant-loop-at
invariant-loop-at l = (k : ℕ) → k < l.at → role_at l.seats k ≢ Client l.number
