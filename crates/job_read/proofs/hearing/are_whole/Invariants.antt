use Rattle.std.proofs.Common.{◌≡◌, drop}
use Rattle.std.specs.List.{list_all}
use Rattle.job_read.specs.Hearing.{spares}
use Rattle.job_read.proofs.hearing.are_whole.Given as goal

abbrev pub invariant-loop-want : goal.invariant-loop-want
invariant-loop-want l =
    list_all (spares l.network l.station) l.wants ≡ list_all (spares l.network l.station) (drop l.want-index l.wants)
