-- The bytes that a write took come after what was written, and one that took some is not empty.
use Rattle.std.proofs.Common.{◌<◌, ◌++◌, take, ◌∙◌, arith}
use Rattle.std.proofs.KnownBytes.{Appends-trans}
use Rattle.sl_io.proofs.TotalLemmas.{split-again}
use Rattle.sl_io.proofs.whole.write_all.Goals as goal

pub writes-preserved : goal.writes-preserved
writes-preserved g c =
    let h = c.writes.invariant in
    let some : 0 < c.in-Ok.count = omega (arith, c.in-Ok.count-test.1) in
    record {
      written = (
        h.written.0 ++ take c.in-Ok.count c.writes.rest.now,
        split-again _ _ _ _ h.written.1 c.in-Ok.ensures.bound,
        Appends-trans _ _ _ _ _ h.written.2 c.in-Ok.ensures.bytes,
      );
      failures = c.in-Ok.ensures.failure ∙ h.failures;
      empty = c.in-Ok.ensures.empty.1 some ∙ h.empty;
    }
