use Rattle.std.proofs.Common.{◌≡◌, drop}
use Rattle.record_check.specs.Streams.{seams_from, with_seams}
use Rattle.record_check.proofs.runs.SeamCount.with_all.Given as goal

abbrev pub invariant-loop-run : goal.invariant-loop-run
invariant-loop-run l =
    with_seams l.count (seams_from l.walk (drop l.run-index l.runs)) ≡ with_seams l.self (seams_from l.fn.reached l.runs)
