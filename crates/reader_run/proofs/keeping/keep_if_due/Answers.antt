-- Nothing is done where nothing is to be kept, or not now.
use Rattle.std.proofs.Common.{refl}
use Rattle.reader_run.proofs.KeepLaws.{step-none}
use Rattle.reader_run.proofs.keeping.keep_if_due.Goals as goal

pub returns-then-records-kept-clause-steps : goal.returns-then-records-kept-clause-steps
returns-then-records-kept-clause-steps g c = step-none _ _ _ _ refl

pub returns-then-not-is_due-clause-steps : goal.returns-then-not-is_due-clause-steps
returns-then-not-is_due-clause-steps g c = step-none _ _ _ _ c.is_due.ensures.done
