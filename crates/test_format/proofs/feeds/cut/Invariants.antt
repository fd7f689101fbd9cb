use Rattle.std.proofs.Common.{length}
use Rattle.test_format.proofs.feeds.cut.Given as goal

abbrev pub decreases-loop-left : goal.decreases-loop-left
decreases-loop-left l = length l.left
