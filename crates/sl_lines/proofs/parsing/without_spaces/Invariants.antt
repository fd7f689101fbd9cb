use Rattle.std.proofs.Common.{drop, ◌≡◌}
use Rattle.protocol.specs.Command.{words}
use Rattle.sl_lines.proofs.parsing.without_spaces.Given as goal

abbrev pub invariant-loop-start : goal.invariant-loop-start
invariant-loop-start l = words l.text ≡ words (drop l.start l.text)
