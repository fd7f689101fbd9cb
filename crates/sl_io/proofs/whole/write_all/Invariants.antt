-- What was written so far and what is left to be written are the bytes, and no write failed or was empty.
use Rattle.std.proofs.Common.{◌≡◌, ℕ, List, ◌++◌, length}
use Rattle.std.specs.Io.KnownBytes.{Appends}
use Rattle.sl_io.proofs.whole.write_all.Given as goal

abbrev pub invariant-writes : goal.invariant-writes
invariant-writes g l = record {
  written : (done : List ℕ) × (l.bytes ≡ done ++ l.rest)
      × Appends (g.S.Sink.written l.fn.sink) (g.S.Sink.written l.sink) done;
  failures : g.S.Sink.failures l.sink ≡ g.S.Sink.failures l.fn.sink;
  empty : g.S.Sink.empty_writes l.sink ≡ g.S.Sink.empty_writes l.fn.sink;
}

abbrev pub decreases-writes : goal.decreases-writes
decreases-writes g l = length l.rest
