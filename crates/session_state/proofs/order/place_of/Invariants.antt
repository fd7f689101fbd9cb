use Rattle.std.proofs.Common.{◌≡◌, ◌≤◌, ◌<◌, ◌-◌, ℕ, true, length}
use Rattle.std.specs.Prelude.{slice_index}
use Rattle.session_state.specs.Orders.{IsLater, ahead_at, is_sooner}
use Rattle.session_state.proofs.order.place_of.Given as goal

-- The record ahead of the first came before none up to one place, and before all from another one on.
abbrev pub invariant-loop-low : goal.invariant-loop-low
invariant-loop-low l =
    (l.low < l.high) × (l.high < length l.order)
    × ((k : ℕ) → 0 < k → k ≤ l.low → IsLater l.entries (slice_index l.order 0) (slice_index l.order k))
    × ((k : ℕ) → l.high ≤ k → k < length l.order
    → is_sooner (ahead_at l.entries (slice_index l.order 0)) (ahead_at l.entries (slice_index l.order k)) ≡ true)

abbrev pub decreases-loop-low : goal.decreases-loop-low
decreases-loop-low l = l.high - l.low
