use Rattle.std.proofs.Common.{arith, length}
use Rattle.text_parts.proofs.DigitLemmas.{below_more}
use Rattle.text_parts.proofs.decimal.number.Goals as goal

pub returns-clause-below : goal.returns-clause-below
returns-clause-below c =
    below_more (length c.args.digits.now) c.args.most c.spelled.result
    (omega (arith, c.if-digits-most.false)) c.spelled.ensures.below
