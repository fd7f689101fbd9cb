use Rattle.std.proofs.Common.{◌≤◌, length}
use Rattle.config_explained.proofs.ValueLineLemmas.{NoneReadsUpTo}
use Rattle.config_explained.proofs.value_line.next_beginning.Given as goal

abbrev pub invariant-loop : goal.invariant-loop
invariant-loop l = record {
  later : l.from ≤ l.end;
  within : l.end ≤ length l.text;
  none : NoneReadsUpTo l.text l.step l.from l.end;
}
