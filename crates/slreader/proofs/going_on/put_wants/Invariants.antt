use Rattle.std.proofs.Common.{◌≡◌, ◌++◌, drop}
use Rattle.slreader.specs.GoingOn.{wants_on}
use Rattle.slreader.proofs.going_on.put_wants.Given as goal

-- What stands, with the wants that are to come, is the whole.
abbrev pub invariant-loop-index : goal.invariant-loop-index
invariant-loop-index l =
    l.going_on.items ++ wants_on l.tally l.index (drop l.index l.wants)
    ≡ l.fn.going_on.items ++ wants_on l.tally 0 l.wants
