use Rattle.std.proofs.Common.{◌≡◌, drop}
use Rattle.slreader.specs.WantTexts.{texts}
use Rattle.job_read.specs.Together.{has_positive}
use Rattle.job_read.proofs.together.has_positive.Given as goal

-- None of those that were looked at says what to send.
abbrev pub invariant-loop-pattern : goal.invariant-loop-pattern
invariant-loop-pattern l =
    has_positive (texts l.patterns) ≡ has_positive (texts (drop l.pattern-index l.patterns))
