use Rattle.std.proofs.Common.{◌≡◌, drop}
use Rattle.job_status.specs.Columns.{origin, widths_from}
use Rattle.job_status.proofs.columns.measure.Given as goal

abbrev pub invariant-loop-byte : goal.invariant-loop-byte
invariant-loop-byte l =
    widths_from l.fn.widths origin l.table ≡ widths_from l.widths l.pen (drop l.byte-index l.table)
