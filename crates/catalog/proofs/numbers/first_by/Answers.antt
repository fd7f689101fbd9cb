use Rattle.std.proofs.Common.{sym, ◌∙◌, arith}
use Rattle.catalog.proofs.NumberLemmas.{first-here, first-later, first-none}
use Rattle.catalog.proofs.numbers.first_by.Goals as goal

pub returns-then-is_of : goal.returns-then-is_of
returns-then-is_of c =
    c.next.ensures
    ∙ sym (c.loop-number.invariant
    ∙ first-here c.args.station.now.station c.args.kept.now c.loop-number.number-index c.number-item.result
    c.loop-number-test.true c.number-item.is (sym c.is_of.ensures ∙ c.if-is_of.true))

pub loop-number-preserved : goal.loop-number-preserved
loop-number-preserved c =
    c.loop-number.invariant
    ∙ first-later c.args.station.now.station c.args.kept.now c.loop-number.number-index c.number-item.result
    c.loop-number-test.true c.number-item.is (sym c.is_of.ensures ∙ c.if-is_of.false)

pub returns : goal.returns
returns c =
    c.first.ensures
    ∙ sym (c.loop-number.invariant
    ∙ first-none c.args.station.now.station c.args.kept.now c.loop-number.number-index
    (omega (arith, c.loop-number-test.false)))
