use Rattle.std.proofs.Common.{◌≡◌, ◌≢◌, ◌≤◌, ℕ, List, None, drop, length}
use Rattle.continued_files.specs.Known.{length_of}
use Rattle.continued_files.proofs.known.drop_named.Given as goal

-- Other files are named as they were, and this one not from the place on.
abbrev pub invariant-loop-at : goal.invariant-loop-at
invariant-loop-at l = record {
  within : l.at ≤ length l.named.items;
  others : (other : List ℕ) → other ≢ l.name
      → length_of l.named.items other ≡ length_of l.fn.named.items other;
  none : length_of (drop l.at l.named.items) l.name ≡ None;
}

abbrev pub decreases-loop-at : goal.decreases-loop-at
decreases-loop-at l = l.at
