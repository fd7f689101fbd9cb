-- The check stands, nothing failed, and there was a read for each turn.
use Rattle.std.proofs.Common.{◌≡◌, ◌≤◌, ◌*◌}
use Rattle.sl_io.proofs.TotalLemmas.{Made}
use Rattle.record_check.specs.Checks.{listed_of}
use Rattle.record_check.specs.Listing.{rules}
use Rattle.record_check.proofs.CheckLemmas.{Stands}
use Rattle.record_check.proofs.check.check_blocks.Given as goal

abbrev pub invariant-reads : goal.invariant-reads
invariant-reads g l = record {
  stands : Stands (rules l.options (g.S.Stations.has_station l.stations)) (listed_of l.fn.listing)
      (g.R.Source.left l.fn.reader) (g.R.Source.left l.reader) (g.W.Sink.written l.fn.writer)
      (g.W.Sink.written l.writer) l.cutter l.listing;
  failures : g.R.Source.failures l.reader ≡ g.R.Source.failures l.fn.reader;
  made : Made (g.R.Source.calls l.fn.reader) (g.R.Source.calls l.reader) l.counter;
  write_failures : g.W.Sink.failures l.writer ≡ g.W.Sink.failures l.fn.writer;
  empty : g.W.Sink.empty_writes l.writer ≡ g.W.Sink.empty_writes l.fn.writer;
  good : l.listing.good ≤ 65536 * l.counter;
}
