-- What is cut off lacks the separator.
use Rattle.reader_state.proofs.CutLemmas.{cut-back, cut-smaller, no-cut, nothing-cut}
use Rattle.reader_state.proofs.reading.cut.Goals as goal

pub returns-in-Some-clause-back : goal.returns-in-Some-clause-back
returns-in-Some-clause-back c = λ xs ys lacks is.
    cut-back _ _ _ _ xs ys c.in-Some.ensures.place c.in-Some.ensures.sides.0 c.in-Some.ensures.sides.1 lacks is

pub returns-in-None-clause-back : goal.returns-in-None-clause-back
returns-in-None-clause-back c = λ xs ys lacks is. no-cut _ _ xs ys c.in-None.ensures.place lacks is

pub returns-in-Some-clause-smaller : goal.returns-in-Some-clause-smaller
returns-in-Some-clause-smaller c = cut-smaller _ _ _ _ c.in-Some.ensures.place c.in-Some.ensures.sides.1

pub returns-in-Some-clause-none : goal.returns-in-Some-clause-none
returns-in-Some-clause-none c = λ lacks. nothing-cut _ _ _ c.in-Some.ensures.place lacks
