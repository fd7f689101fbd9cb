use Rattle.std.proofs.Common.{length}
use Rattle.reader_state.proofs.wrong.wrong_line.Given as goal

abbrev pub decreases-lines : goal.decreases-lines
decreases-lines l = length l.left
