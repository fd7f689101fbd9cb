-- The month is one from which the search goes on up.
use Rattle.std.proofs.Common.{◌≡◌, ◌-◌, ◌≤◌}
use Rattle.sl_time.specs.Written.{date_of, month_from}
use Rattle.sl_time.proofs.iso.calendar.date_of.Given as goal

abbrev pub invariant-months : goal.invariant-months
invariant-months l = record {
  from : 1 ≤ l.month;
  to : l.month ≤ 12;
  is : date_of l.fn.year l.fn.day ≡ month_from (12 - l.month) l.year l.month l.left;
}

abbrev pub decreases-months : goal.decreases-months
decreases-months l = 12 - l.month
