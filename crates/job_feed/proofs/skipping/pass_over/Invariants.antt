use Rattle.std.proofs.Common.{◌≤◌, ◌-◌}
use Rattle.job_feed.proofs.SkippingLemmas.{IsBehind}
use Rattle.job_feed.proofs.skipping.pass_over.Given as goal

-- What is not left to be passed over was.
abbrev pub invariant-passed : goal.invariant-passed
invariant-passed g l = record {
  within : l.left ≤ l.count;
  behind : IsBehind (g.R.Source.left l.fn.records) (g.R.Source.left l.records) (l.count - l.left);
}

abbrev pub decreases-passed : goal.decreases-passed
decreases-passed g l = l.left
