use Rattle.std.proofs.Common.{◌≡◌, ◌++◌, take}
use Rattle.slreader.proofs.tally.put_copies.Given as goal

abbrev pub invariant-loop-other : goal.invariant-loop-other
invariant-loop-other l = l.resumes.items ≡ l.fn.resumes.items ++ take l.other-index l.others
