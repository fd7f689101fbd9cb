use Rattle.std.proofs.Common.{◌≡◌, List, map, take}
use Rattle.session_state.specs.NamedValues.{Choice, entry_of}
use Rattle.transfer.specs.Firsts.{RestBetween, best_of}
use Rattle.transfer.proofs.overview.look.Given as goal

-- The requests that were looked at rest, and what is first among them and those before is found.
abbrev pub invariant-loop-index : goal.invariant-loop-index
invariant-loop-index l = (cs : List Choice) → map entry_of cs ≡ l.entries →
    RestBetween l.rings l.next l.from l.index cs
    × (l.fn.before ≡ best_of (take l.from cs) → l.best ≡ best_of (take l.index cs))
