use Rattle.std.proofs.Common.{◌≤◌, ◌-◌}
use Rattle.protocol.specs.Time.{days_before}
use Rattle.sl_time.proofs.days.day_at.Given as goal

abbrev pub invariant-years : goal.invariant-years
invariant-years l = record {
  first : 1 ≤ l.year;
  last : l.year ≤ 9999;
  begun : days_before l.year ≤ l.days;
}

abbrev pub decreases-years : goal.decreases-years
decreases-years l = 9999 - l.year
