use Rattle.std.proofs.Common.{◌≡◌, drop}
use Rattle.std.specs.List.{list_all}
use Rattle.slreader.specs.Wants.{is_pattern}
use Rattle.slreader.specs.WantTexts.{texts}
use Rattle.slreader.proofs.spelling.are_patterns.Given as goal

abbrev pub invariant-loop-pattern : goal.invariant-loop-pattern
invariant-loop-pattern l = list_all is_pattern (texts l.patterns)
    ≡ list_all is_pattern (texts (drop l.pattern-index l.patterns))
