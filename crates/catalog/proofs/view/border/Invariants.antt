use Rattle.std.proofs.Common.{◌+◌, ◌-◌, ◌≤◌, length, nat_lt}
use Rattle.std.specs.List.Sorted.{IsNonDecreasingBy}
use Rattle.catalog.specs.Orders.{rank_at, IsAround}
use Rattle.catalog.proofs.view.border.Given as goal

abbrev pub invariant-loop-left : goal.invariant-loop-left
invariant-loop-left l = record {
  inside : l.at + l.left ≤ length l.by_codes;
  last : l.at ≤ length l.by_codes - 1;
  around : IsNonDecreasingBy (rank_at l.stations) l.by_codes
      → IsAround (λ p. nat_lt (rank_at l.stations p) l.rank) l.by_codes l.at l.left;
}

abbrev pub decreases-loop-left : goal.decreases-loop-left
decreases-loop-left l = l.left
