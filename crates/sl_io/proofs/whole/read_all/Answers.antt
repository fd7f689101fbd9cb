-- What was read before and at the fault is what was taken.
use Rattle.std.proofs.lemmas.Result.{err_from_is_err_and}
use Rattle.sl_io.proofs.TotalLemmas.{ConsumesSome-after}
use Rattle.sl_io.proofs.whole.read_all.Goals as goal

pub returns-in_err-read_block-clause-lost : goal.returns-in_err-read_block-clause-lost
returns-in_err-read_block-clause-lost g c =
    let p = err_from_is_err_and c.from_residual.result c.from_residual.ensures.1 in
    rw p.1 (ConsumesSome-after _ _ _ _ c.reads.invariant.consumed c.in_err-read_block.ensures.lost)
