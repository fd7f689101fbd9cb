use Rattle.std.proofs.Common.{◌≡◌, ◌-◌, ◌<◌, ◌≤◌, false, Some, length, take, get_or}
use Rattle.config_explained.specs.ValueLines.{Reads}
use Rattle.config_explained.proofs.value_line.last_without.Given as goal

abbrev pub invariant-loop : goal.invariant-loop
invariant-loop l = record {
  within : l.low ≤ length l.text;
  above : l.high ≤ length l.text;
  begins : l.low < length l.text → 0 < l.low → get_or l.text (l.low - 1) 0 ≡ 10;
  before : Reads (take l.low l.text) l.step (Some false);
}
