-- What is written is read back.
use Rattle.std.proofs.Common.{◌∙◌}
use Rattle.reader_state.proofs.FileLemmas.{count-back, count-utf8}
use Rattle.reader_state.proofs.files.count_of.Goals as goal

pub returns-in-Err : goal.returns-in-Err
returns-in-Err c = λ n fits is. absurd (c.in-Err.ensures.cases.0 (count-utf8 _ n fits is))

pub returns : goal.returns
returns c = λ n fits is.
    count-back _ n c.parse.result _ c.ok.ensures.value fits (c.in-Ok.ensures.cases.0 ∙ is) c.parse.ensures.value.0
