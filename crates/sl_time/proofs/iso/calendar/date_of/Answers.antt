-- A month that is too short for the day is passed.
use Rattle.std.proofs.Common.{◌∙◌, ◌+◌, ◌-◌, ◌<◌, ap, arith, sym}
use Rattle.protocol.specs.Time.{days_in}
use Rattle.sl_time.proofs.DateLemmas.{month_ends, month_steps, month_stops}
use Rattle.sl_time.specs.Written.{month_from}
use Rattle.sl_time.proofs.iso.calendar.date_of.Goals as goal
use Rattle.sl_time.proofs.iso.calendar.date_of.Goals.{else-months-test, then-months-test+then-left-days}

pub months-preserved : goal.months-preserved
months-preserved c =
    let h = c.months.invariant in
    let early = c.months-test.true in
    let longer : days_in c.args.year c.months.month < c.months.left =
    rw c.days_in-days.ensures at c.if-left-days.false in
    record {
      from = omega arith;
      to = omega arith;
      is = h.is ∙ month_steps c.args.year c.months.month c.months.left early longer
          ∙ ap (λ d. month_from (12 - (c.months.month + 1)) c.args.year (c.months.month + 1) (c.months.left - d))
          (sym c.days_in-days.ensures);
    }

pub returns : goal.returns
returns c = elim c.months-test.branch [
  | else-months-test w ↦
      sym (c.months.invariant.is ∙ month_ends c.args.year c.months.month c.months.left w.months-test.false)
  | then-months-test+then-left-days w ↦
      sym (c.months.invariant.is ∙ month_stops (12 - c.months.month) c.args.year c.months.month c.months.left
      (rw w.days_in-days.ensures at w.if-left-days.true))
]
