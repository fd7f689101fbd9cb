-- What was sent so far, nothing failed, and there was a read for each turn.
use Rattle.std.proofs.Common.{◌≡◌, ◌<◌, ℕ, length, take}
use Rattle.sl_io.proofs.TotalLemmas.{Made}
use Rattle.feeder.specs.Sending.{capped}
use Rattle.feeder.proofs.SendLemmas.{SoFar}
use Rattle.feeder.proofs.sending.send.Given as goal

abbrev pub invariant-reads : goal.invariant-reads
invariant-reads g l = record {
  stands : (k : ℕ) × SoFar (g.R.Source.left l.fn.reader) (g.R.Source.left l.reader) (g.W.Sink.written l.fn.writer)
      (g.W.Sink.written l.writer) (take l.held l.rest) k × (l.sent ≡ capped k);
  held : l.held < 512;
  size : length (take l.held l.rest) ≡ l.held;
  failures : g.R.Source.failures l.reader ≡ g.R.Source.failures l.fn.reader;
  made : Made (g.R.Source.calls l.fn.reader) (g.R.Source.calls l.reader) l.counter;
  write_failures : g.W.Sink.failures l.writer ≡ g.W.Sink.failures l.fn.writer;
  empty : g.W.Sink.empty_writes l.writer ≡ g.W.Sink.empty_writes l.fn.writer;
}
