use Rattle.std.proofs.Common.{◌≡◌, ◌++◌, drop}
use Rattle.slreader.specs.Wants.{selects}
use Rattle.slreader.specs.WantTexts.{texts}
use Rattle.slreader.proofs.commands.put_selects.Given as goal

-- What stands, with the SELECTs that are to come, is the whole.
abbrev pub invariant-loop-pattern : goal.invariant-loop-pattern
invariant-loop-pattern l =
    l.lines.items ++ selects l.want (texts (drop l.pattern-index l.patterns))
    ≡ l.fn.lines.items ++ selects l.want (texts l.patterns)
