use Rattle.std.proofs.Common.{◌≡◌, ◌≤◌, length}
use Rattle.session_state.specs.Choices.{chosen_of}
use Rattle.transfer.specs.Cursors.{BeginsIn, OfAll, StartsIn}
use Rattle.transfer.proofs.RestLemmas.{Moves}
use Rattle.transfer.proofs.starting.place_cursors.Given as goal

-- So many cursors are at the place at which their requests begin.
abbrev pub invariant-loop-i : goal.invariant-loop-i
invariant-loop-i l =
    Moves (λ c. StartsIn l.rings c × (OfAll (BeginsIn l.rings) (chosen_of l.fn.session.mode) → BeginsIn l.rings c)) l.i
    l.session l.fn.session
    × (l.i ≤ l.count) × (l.count ≡ length (chosen_of l.fn.session.mode))
    × (l.session.looked ≡ l.fn.session.looked)
