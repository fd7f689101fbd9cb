use Rattle.std.proofs.Common.{◌≡◌, drop}
use Rattle.slreader.specs.WantTexts.{texts}
use Rattle.job_read.specs.Together.{is_among}
use Rattle.job_read.proofs.together.is_among.Given as goal

-- None of those that were looked at is the text.
abbrev pub invariant-loop-pattern : goal.invariant-loop-pattern
invariant-loop-pattern l =
    is_among (texts l.patterns) l.text ≡ is_among (texts (drop l.pattern-index l.patterns)) l.text
