use Rattle.std.proofs.Common.{length}
use Rattle.job_feed.proofs.aligned.records_ahead.Given as goal

-- No byte of what is left was looked at.
abbrev pub invariant-records : goal.invariant-records
invariant-records l = record {}

abbrev pub decreases-records : goal.decreases-records
decreases-records l = length l.left
