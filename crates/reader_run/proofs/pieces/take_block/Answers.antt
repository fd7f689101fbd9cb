-- What a piece gave is written, or as much of it as could be.
use Rattle.std.proofs.Common.{◌∙◌}
use Rattle.reader_run.proofs.WaitLaws.{fails-written, takes-written}
use Rattle.reader_run.proofs.pieces.take_block.Goals as goal

pub returns-in-Ok-taken-clause-taken : goal.returns-in-Ok-taken-clause-taken
returns-in-Ok-taken-clause-taken g c =
    takes-written _ _ _ _ _ _ c.in-Ok.taken _ _ _ _ _ _ _ _ c.in-Ok-taken.is c.in-Ok.ensures.taken
    c.in-Ok-write_output.ensures.lines c.in-Ok-write_output.ensures.records c.in-Ok-write_output.ensures.cleared
    c.begin.ensures.written c.in-Ok.ensures.written

pub returns-in-Err-taken-clause-stopped : goal.returns-in-Err-taken-clause-stopped
returns-in-Err-taken-clause-stopped g c = (
  fails-written _ _ _ _ _ _ c.in-Ok.taken _ _ _ _ _ _ _ _ c.in-Err-taken.is c.in-Ok.ensures.failed
      c.in-Ok-write_output.ensures.lines c.in-Ok-write_output.ensures.records c.in-Ok-write_output.ensures.cleared
      c.begin.ensures.written c.in-Ok.ensures.written,
  (
    c.in-Ok-write_output.ensures.quiet.0,
    (
      c.in-Ok-write_output.ensures.quiet.1.0 ∙ c.in-Ok.ensures.quiet.0 ∙ c.begin.ensures.failures,
      c.in-Ok-write_output.ensures.quiet.1.1 ∙ c.in-Ok.ensures.quiet.1 ∙ c.begin.ensures.empty,
    ),
  ),
)
