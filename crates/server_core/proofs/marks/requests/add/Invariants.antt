use Rattle.server_core.proofs.RowLemmas.{Adds}
use Rattle.server_core.proofs.marks.requests.add.Given as goal

-- What is set, or still to be set, is what was set before or is asked for.
abbrev pub invariant-loop-choice : goal.invariant-loop-choice
invariant-loop-choice l = Adds l.slot l.choices l.choice-index l.fn.rows l.rows
