use Rattle.std.proofs.Common.{◌≡◌, ◌++◌, drop}
use Rattle.slreader.specs.Lasts.{lasts_from}
use Rattle.slreader.proofs.tally.Tally.lasts.Given as goal

-- What stands, with the wants that are to come, is the whole.
abbrev pub invariant-loop-index : goal.invariant-loop-index
invariant-loop-index l =
    l.lasts.items ++ lasts_from l.self l.index (drop l.index l.wants) ≡ lasts_from l.self 0 l.wants
