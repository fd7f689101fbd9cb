use Rattle.std.proofs.Common.{◌≡◌, ◌++◌, drop, map, take}
use Rattle.server_watch.specs.Watching.{reaching}
use Rattle.server_watch.proofs.arrivals.reach_all.Given as goal

abbrev pub invariant-loop-one : goal.invariant-loop-one
invariant-loop-one l =
    l.arrivals ≡ map (reaching l.minute) (take l.one-index l.initial.arrivals) ++ drop l.one-index l.initial.arrivals
