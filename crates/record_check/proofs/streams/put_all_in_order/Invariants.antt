use Rattle.std.proofs.Common.{◌≡◌, ◌<◌, ◌≤◌, ℕ, get_or, length}
use Rattle.record_check.specs.Streams.{StreamValue, IsInOrder}
use Rattle.record_check.proofs.streams.put_all_in_order.Given as goal

-- The streams before the next one are in order, and it and those behind it are as they were.
abbrev pub invariant-loop-index : goal.invariant-loop-index
invariant-loop-index l = record {
  count : length l.streams.items ≡ length l.fn.streams.items;
  done : (k : ℕ) (d : StreamValue) → k < l.index → k < length l.fn.streams.items
      → IsInOrder (get_or l.fn.streams.items k d) (get_or l.streams.items k d);
  left : (k : ℕ) (d : StreamValue) → l.index ≤ k → get_or l.streams.items k d ≡ get_or l.fn.streams.items k d;
}
