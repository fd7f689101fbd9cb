use Rattle.std.proofs.Common.{◌∙◌, ap, sym}
use Rattle.std.specs.Prelude.{None}
use Rattle.transfer.specs.Choosing.{answer_of}
use Rattle.transfer.proofs.choosing.end_if_complete.Goals as goal

pub returns-then-is_complete-clause-complete : goal.returns-then-is_complete-clause-complete
returns-then-is_complete-clause-complete c = λ next rests reached config h holds.
    ap (answer_of None) (sym c.if-is_complete.true
    ∙ c.is_complete.ensures.complete _ (sym c.choices.ensures) next rests reached config h holds)

pub returns-else-is_complete-clause-complete : goal.returns-else-is_complete-clause-complete
returns-else-is_complete-clause-complete c = λ next rests reached config h holds.
    ap (answer_of None) (sym c.if-is_complete.false
    ∙ c.is_complete.ensures.complete _ (sym c.choices.ensures) next rests reached config h holds)

pub returns-else-is_complete-clause-more : goal.returns-else-is_complete-clause-more
returns-else-is_complete-clause-more c = λ next rests reached nothing.
    c.is_complete.ensures.more _ (sym c.choices.ensures) next rests reached c.if-is_complete.false
