use Rattle.std.proofs.Common.{◌≡◌, length}
use Rattle.std.specs.Prelude.{codes}
use Rattle.job_read.specs.Answers.{has_text}
use Rattle.job_read.proofs.answers.names_three.Given as goal

-- What is left has the text exactly if the line has it.
abbrev pub invariant-places : goal.invariant-places
invariant-places l = has_text (codes "SLPROTO:3") l.left ≡ has_text (codes "SLPROTO:3") l.line

abbrev pub decreases-places : goal.decreases-places
decreases-places l = length l.left
