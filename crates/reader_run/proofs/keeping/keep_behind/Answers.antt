-- What was written is made to last, and then it is kept or not.
use Rattle.std.proofs.Common.{ap, ◌∙◌, Err}
use Rattle.std.proofs.lemmas.Result.{err_from_is_err_and}
use Rattle.reader_run.proofs.KeepLaws.{step-kept, step-none, told-kept}
use Rattle.reader_run.proofs.keeping.keep_behind.Goals as goal

pub returns-in_err-flush-clause-steps : goal.returns-in_err-flush-clause-steps
returns-in_err-flush-clause-steps g c =
    step-none _ _ _ _ c.in_err-flush.ensures.undone

pub returns-clause-steps : goal.returns-clause-steps
returns-clause-steps g c =
    step-kept _ _ _ _ _ _ c.keep.result c.tally.ensures c.in_ok-flush.ensures.done c.keep.ensures.done
    c.keep.ensures.undone

pub returns-clause-kept : goal.returns-clause-kept
returns-clause-kept g c =
    told-kept _ _ _ _ _ _ c.keep.result c.tally.ensures c.in_ok-flush.ensures.done c.keep.ensures.done
