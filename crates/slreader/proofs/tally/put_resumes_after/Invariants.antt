use Rattle.std.proofs.Common.{◌≡◌, ◌++◌, map, take}
use Rattle.slreader.specs.Lasts.{resume_after}
use Rattle.slreader.proofs.tally.put_resumes_after.Given as goal

abbrev pub invariant-loop-want : goal.invariant-loop-want
invariant-loop-want l =
    l.resumes.items ≡ l.fn.resumes.items ++ map (resume_after l.lasts) (take l.want-index l.wants)
