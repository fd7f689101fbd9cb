use Rattle.std.proofs.Common.{◌≡◌, ◌++◌, drop, map, take}
use Rattle.job_read.specs.Returns.{marked_if}
use Rattle.job_read.proofs.returns.mark_all.Given as goal

-- Those before the place are marked, and the others are as they were.
abbrev pub invariant-loop-one : goal.invariant-loop-one
invariant-loop-one l =
    l.one-items ≡ map (marked_if l.is_jump l.is_archive) (take l.one-index l.initial.one-items)
    ++ drop l.one-index l.initial.one-items
