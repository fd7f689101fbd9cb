use Rattle.std.proofs.Common.{◌≡◌, drop}
use Rattle.slreader.specs.WantTexts.{texts}
use Rattle.job_read.specs.Together.{are_negative_in}
use Rattle.job_read.proofs.together.are_negative_in.Given as goal

-- What those that were looked at say not to send, the others say too.
abbrev pub invariant-loop-pattern : goal.invariant-loop-pattern
invariant-loop-pattern l =
    are_negative_in (texts l.others) (texts l.patterns)
    ≡ are_negative_in (texts l.others) (texts (drop l.pattern-index l.patterns))
