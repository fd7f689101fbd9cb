-- All that came is told, nothing failed so far, and there was a read for each turn.
use Rattle.std.proofs.Common.{◌≡◌}
use Rattle.sl_io.proofs.TotalLemmas.{Made}
use Rattle.reader_run.specs.Keeping.{KeepsCounted}
use Rattle.reader_run.specs.Rounds.{ListedTo}
use Rattle.reader_run.proofs.reading.read_blocks.Given as goal

abbrev pub invariant-reads : goal.invariant-reads
invariant-reads g l = record {
  listed : ListedTo l.fn.core l.core l.fn.output l.output
      (g.R.Source.left l.fn.reader) (g.R.Source.left l.reader) (g.W.Sink.written l.fn.writer)
      (g.W.Sink.written l.writer)
      (g.O.Sink.written l.fn.out) (g.O.Sink.written l.out) (g.P.RecordSink.written l.fn.records) (g.P.RecordSink.written l.records);
  failures : g.R.Source.failures l.reader ≡ g.R.Source.failures l.fn.reader;
  made : Made (g.R.Source.calls l.fn.reader) (g.R.Source.calls l.reader) l.counter;
  write_failures : g.W.Sink.failures l.writer ≡ g.W.Sink.failures l.fn.writer;
  write_empty : g.W.Sink.empty_writes l.writer ≡ g.W.Sink.empty_writes l.fn.writer;
  line_failures : g.O.Sink.failures l.out ≡ g.O.Sink.failures l.fn.out;
  line_empty : g.O.Sink.empty_writes l.out ≡ g.O.Sink.empty_writes l.fn.out;
  record_failures : g.P.RecordSink.failures l.records ≡ g.P.RecordSink.failures l.fn.records;
  behind : KeepsCounted l.fn.core (g.P.RecordSink.written l.fn.records) (g.K.Keeper.done l.fn.keeper)
      (g.K.Keeper.done l.keeper);
  keeper_failures : g.K.Keeper.failures l.keeper ≡ g.K.Keeper.failures l.fn.keeper;
  record_empty : g.P.RecordSink.empty_writes l.records ≡ g.P.RecordSink.empty_writes l.fn.records;
}
