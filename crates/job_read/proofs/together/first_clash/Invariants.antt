use Rattle.std.proofs.Common.{◌≡◌, drop}
use Rattle.job_read.specs.Together.{clash_from, first_clash}
use Rattle.job_read.proofs.together.first_clash.Given as goal

-- None of those that were looked at clashes with an earlier one.
abbrev pub invariant-loop-place : goal.invariant-loop-place
invariant-loop-place l = first_clash l.wants ≡ clash_from l.wants l.place (drop l.place l.wants)
