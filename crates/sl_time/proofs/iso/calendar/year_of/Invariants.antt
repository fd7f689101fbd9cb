-- The year is one from which the search goes on down.
use Rattle.std.proofs.Common.{◌≡◌, ◌<◌, ◌≤◌}
use Rattle.sl_time.specs.Written.{year_by, year_of}
use Rattle.sl_time.proofs.iso.calendar.year_of.Given as goal

abbrev pub invariant-years : goal.invariant-years
invariant-years l = record {
  from : 1 ≤ l.year;
  to : l.year < 20000;
  is : year_of l.days ≡ year_by l.year l.days;
}

abbrev pub decreases-years : goal.decreases-years
decreases-years l = l.year
