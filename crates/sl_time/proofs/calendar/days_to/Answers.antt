use Rattle.std.proofs.Common.{◌≡◌, ◌+◌, ◌-◌, arith, unsigned_abs}
use Rattle.protocol.specs.Time.{days_before, days_of_year_before}
use Rattle.sl_time.proofs.CalendarLemmas.{date_days}
use Rattle.sl_time.proofs.calendar.days_to.Goals as goal

days_is : (c : goal.After-days_since_min)
    → c.days_since_min.result ≡ 3652425
    + (days_before (unsigned_abs c.args.date.year)
    + (days_of_year_before (unsigned_abs c.args.date.year) c.args.date.month + c.args.date.day - 1))
days_is c =
    date_days c.args.date.year c.args.date.month c.args.date.day c.days_since_min.result c.requires
    (omega (arith, c.args.date.month_in)) (omega (arith, c.args.date.day_in)) c.days_since_min.ensures.value

pub overflow_sub-result : goal.overflow_sub-result
overflow_sub-result c = omega (arith, days_is c)

pub returns : goal.returns
returns c = omega (arith, days_is c)
