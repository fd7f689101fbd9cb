use Rattle.std.proofs.Common.{◌≡◌, ◌++◌, drop, map, take}
use Rattle.server_watch.specs.Turns.{with_turn_in}
use Rattle.server_watch.proofs.turns.count_in_all.Given as goal

abbrev pub invariant-loop-bucket : goal.invariant-loop-bucket
invariant-loop-bucket l =
    l.buckets ≡ map (with_turn_in l.micros) (take l.bucket-index l.initial.buckets)
    ++ drop l.bucket-index l.initial.buckets
