use Rattle.std.proofs.Common.{◌≡◌, ◌+◌, ◌++◌, length, drop, take}
use Rattle.selector.specs.Pools.{starts_from, total}
use Rattle.selector.proofs.pool.lay_out.Given as goal

-- So many starts are written, and the next list starts at the place that was reached.
abbrev pub invariant-loop-i : goal.invariant-loop-i
invariant-loop-i l = record {
  same : length l.starts ≡ length l.counts;
  written : starts_from 0 l.counts ≡ take l.i l.starts ++ starts_from l.start (drop l.i l.counts);
  rest : l.start + total (drop l.i l.counts) ≡ total l.counts;
}
