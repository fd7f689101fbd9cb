-- A plan that the reader does not begin is not begun.
use Rattle.reader_run.proofs.FurtherLaws.{not-begun}
use Rattle.reader_run.proofs.reading.begin.Goals as goal

pub returns-in-Err-clause-fault : goal.returns-in-Err-clause-fault
returns-in-Err-clause-fault c = not-begun c.in-Err.fault _ c.in-Err.ensures.fault
