-- What was read so far is what was consumed, no read failed, and there was a read for each turn.
use Rattle.std.proofs.Common.{◌≡◌}
use Rattle.std.specs.Io.KnownBytes.{Consumes}
use Rattle.sl_io.proofs.TotalLemmas.{Made}
use Rattle.sl_io.proofs.whole.read_all.Given as goal

abbrev pub invariant-reads : goal.invariant-reads
invariant-reads g l = record {
  consumed : Consumes (g.S.Source.left l.fn.source) (g.S.Source.left l.source) l.bytes.items;
  same : g.S.Source.failures l.source ≡ g.S.Source.failures l.fn.source;
  made : Made (g.S.Source.calls l.fn.source) (g.S.Source.calls l.source) l.counter;
}
