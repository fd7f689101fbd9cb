use Rattle.std.proofs.Common.{◌≡◌, ◌+◌, ◌≤◌, drop}
use Rattle.job_read.specs.Windows.{comma_count}
use Rattle.job_read.proofs.windows.comma_count.Given as goal

-- What was counted and what is left are all commas.
abbrev pub invariant-loop-byte : goal.invariant-loop-byte
invariant-loop-byte l = record {
  counted : l.count + comma_count (drop l.byte-index l.text) ≡ comma_count l.text;
  bound : l.count ≤ l.byte-index;
}
