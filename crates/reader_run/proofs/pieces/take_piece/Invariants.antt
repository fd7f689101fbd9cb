use Rattle.std.proofs.Common.{◌≡◌, length}
use Rattle.reader_run.proofs.WaitLaws.{TakenBeside}
use Rattle.reader_run.proofs.pieces.take_piece.Given as goal

-- The dialogue went on over what came before the rest of the piece, what that gave is told or waits, and nothing was
-- written.
abbrev pub invariant-given : goal.invariant-given
invariant-given g l = record {
  taken : TakenBeside l.fn.core l.core l.fn.output l.output l.piece l.left (g.P.RecordSink.Waits l.records);
  written : g.P.RecordSink.written l.records ≡ g.P.RecordSink.written l.fn.records;
  failures : g.P.RecordSink.failures l.records ≡ g.P.RecordSink.failures l.fn.records;
  empty : g.P.RecordSink.empty_writes l.records ≡ g.P.RecordSink.empty_writes l.fn.records;
}

abbrev pub decreases-given : goal.decreases-given
decreases-given g l = length l.left
