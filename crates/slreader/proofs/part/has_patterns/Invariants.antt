use Rattle.std.proofs.Common.{length}
use Rattle.std.specs.Prelude.{◌==◌}
use Rattle.protocol.specs.Pieces.{split}
use Rattle.slreader.proofs.WordPartLemmas.{IsCutOff}
use Rattle.slreader.proofs.part.has_patterns.Given as goal

-- So many patterns were cut off, with room for so many more.
abbrev pub invariant-commas : goal.invariant-commas
invariant-commas l = IsCutOff l.room (split (λ b. b == 44) l.left) (split (λ b. b == 44) l.list)

abbrev pub decreases-commas : goal.decreases-commas
decreases-commas l = length l.left
