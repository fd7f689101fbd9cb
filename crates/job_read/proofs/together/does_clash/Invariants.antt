use Rattle.std.proofs.Common.{◌≡◌, drop}
use Rattle.std.specs.List.{list_any}
use Rattle.job_read.specs.Together.{clash}
use Rattle.job_read.proofs.together.does_clash.Given as goal

-- None of those that were looked at clashes with the want.
abbrev pub invariant-loop-other : goal.invariant-loop-other
invariant-loop-other l =
    list_any (λ v. clash v l.want) l.earlier ≡ list_any (λ v. clash v l.want) (drop l.other-index l.earlier)
