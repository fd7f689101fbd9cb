use Rattle.std.proofs.Common.{◌≡◌, ◌<◌, ◌≤◌, ℕ, false, length, slice_get}
use Rattle.server_core.specs.Marks.{Elsewhere, KeepsRows, bit_by}
use Rattle.server_core.proofs.marks.requests.clear.Given as goal

abbrev pub invariant-loop-place : goal.invariant-loop-place
invariant-loop-place l = record {
  kept : KeepsRows (Elsewhere l.slot) l.fn.rows l.rows;
  cleared : (place : ℕ) → place < l.place → bit_by (slice_get l.rows place) l.slot ≡ false;
  inside : l.place ≤ l.place-end;
  count : l.place-end ≡ length l.rows;
}
