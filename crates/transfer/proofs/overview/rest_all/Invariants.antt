use Rattle.std.proofs.Common.{◌≡◌, ◌≤◌, length, take}
use Rattle.session_state.specs.Choices.{chosen_of}
use Rattle.transfer.specs.Cursors.{OfAll, PassedIn, RestsIn}
use Rattle.transfer.specs.Firsts.{best_of}
use Rattle.transfer.proofs.RestLemmas.{Moves}
use Rattle.transfer.proofs.overview.rest_all.Given as goal

-- So many requests have passed what they don't want, and what is first among them is found. Each round comes further.
abbrev pub invariant-loop-i : goal.invariant-loop-i
invariant-loop-i l =
    Moves (λ c. OfAll (PassedIn l.rings l.next) (chosen_of l.fn.session.mode)
    → RestsIn l.rings l.next c) l.from l.session l.fn.session
    × (l.best ≡ best_of (take l.from (chosen_of l.session.mode)))
    × (l._i ≤ l.from) × (l.from ≤ l.count) × (l.count ≡ length (chosen_of l.fn.session.mode))
    × (l.session.packets ≡ l.fn.session.packets)
