-- What is written is read back.
use Rattle.std.proofs.Common.{◌∙◌}
use Rattle.reader_state.proofs.ParseLemmas.{decimal-utf8, parsed-back, parsed-none}
use Rattle.reader_state.proofs.reading.ticks_of.Goals as goal

pub returns-in-Err-clause-back : goal.returns-in-Err-clause-back
returns-in-Err-clause-back c = λ tick h is. absurd (c.in-Err.ensures.cases.0 (decimal-utf8 _ tick h is))

pub returns-clause-back : goal.returns-clause-back
returns-clause-back c = λ tick h is.
    parsed-back _ tick c.parse.result _ c.ok.ensures.value h (c.in-Ok.ensures.cases.0 ∙ is) c.parse.ensures.value.0

pub returns-clause-none : goal.returns-clause-none
returns-clause-none c = λ is.
    parsed-none _ c.parse.result _ c.ok.ensures.value (c.in-Ok.ensures.cases.0 ∙ is) c.parse.ensures.value.0
