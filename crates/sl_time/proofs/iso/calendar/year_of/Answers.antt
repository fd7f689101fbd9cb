-- A year that begins after the day is passed.
use Rattle.std.proofs.Common.{◌∙◌, ◌<◌, ◌≤◌, arith, sym}
use Rattle.protocol.specs.Time.{days_before}
use Rattle.sl_time.proofs.DateLemmas.{year_begins, year_falls, year_stops}
use Rattle.sl_time.proofs.iso.calendar.year_of.Goals as goal

pub years-init : goal.years-init
years-init c =
    let within = c.requires in
    record { from = omega arith; to = omega arith; is = year_begins c.args.days }

pub years-preserved : goal.years-preserved
years-preserved c =
    let h = c.years.invariant in
    let some = c.years-test.true in
    let to = h.to in
    let begins : c.args.days < days_before c.years.year = rw c.days_before.ensures at c.if-days_before-days.true in
    record {
      from = omega arith;
      to = omega arith;
      is = h.is ∙ year_falls c.years.year c.args.days h.from begins;
    }

pub returns-else-days_before-days-clause-value : goal.returns-else-days_before-days-clause-value
returns-else-days_before-days-clause-value c =
    let h = c.years.invariant in
    let begun : days_before c.years.year ≤ c.args.days = rw c.days_before.ensures at c.if-days_before-days.false in
    sym (h.is ∙ year_stops c.years.year c.args.days h.from begun)

pub returns-after-years-clause-value : goal.returns-after-years-clause-value
returns-after-years-clause-value c =
    let h = c.years.invariant in
    let first = c.years-test.false in
    let from = h.from in
    let begun : days_before c.years.year ≤ c.args.days = omega arith in
    sym (h.is ∙ year_stops c.years.year c.args.days h.from begun)
