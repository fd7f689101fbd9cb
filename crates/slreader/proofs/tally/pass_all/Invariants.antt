use Rattle.std.proofs.Common.{◌≡◌, ◌++◌, map, take, drop}
use Rattle.slreader.specs.Tallies.{passed}
use Rattle.slreader.proofs.tally.pass_all.Given as goal

abbrev pub invariant-loop-index : goal.invariant-loop-index
invariant-loop-index l =
    l.resumes.items ≡ map (passed l.number l.header) (take l.index l.fn.resumes.items)
    ++ drop l.index l.fn.resumes.items
