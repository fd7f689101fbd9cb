use Rattle.std.proofs.Common.{◌≡◌, ◌≤◌, length}
use Rattle.session_state.specs.Choices.{chosen_of}
use Rattle.transfer.proofs.KeptLemmas.{Keeps}
use Rattle.transfer.proofs.starting.start.Given as goal

-- So many requests have their first arrival.
abbrev pub invariant-loop-i : goal.invariant-loop-i
invariant-loop-i l = Keeps l.fn.rings l.i l.session l.fn.session × (l.i ≤ l.count)
    × (l.count ≡ length (chosen_of l.fn.session.mode))
