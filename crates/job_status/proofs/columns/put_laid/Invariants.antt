use Rattle.std.proofs.Common.{◌≡◌, ◌++◌, drop}
use Rattle.job_status.specs.Columns.{laid_from, origin}
use Rattle.job_status.proofs.columns.put_laid.Given as goal

abbrev pub invariant-loop-byte : goal.invariant-loop-byte
invariant-loop-byte l =
    l.fn.text.items ++ laid_from l.widths origin l.table
    ≡ l.text.items ++ laid_from l.widths l.pen (drop l.byte-index l.table)
