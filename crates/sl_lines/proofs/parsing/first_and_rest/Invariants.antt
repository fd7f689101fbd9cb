use Rattle.std.proofs.Common.{drop, take, ◌≡◌}
use Rattle.protocol.specs.Command.{words}
use Rattle.sl_lines.proofs.WordLemmas.{begun}
use Rattle.sl_lines.proofs.parsing.first_and_rest.Given as goal

abbrev pub invariant-loop-end : goal.invariant-loop-end
invariant-loop-end l = words l.text ≡ begun (take l.end l.text) (drop l.end l.text)
