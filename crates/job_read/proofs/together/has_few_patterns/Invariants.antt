use Rattle.std.proofs.Common.{◌≡◌, ◌+◌, drop}
use Rattle.slreader.specs.Wants.{patterns_together}
use Rattle.job_read.proofs.together.has_few_patterns.Given as goal

-- What the wants have together is what those that were looked at have, and what the others have.
abbrev pub invariant-loop-want : goal.invariant-loop-want
invariant-loop-want l = patterns_together l.wants + l.left ≡ 1024 + patterns_together (drop l.want-index l.wants)
