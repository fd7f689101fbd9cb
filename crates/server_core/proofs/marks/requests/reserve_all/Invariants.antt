use Rattle.std.proofs.Common.{◌≡◌, ◌<◌, ◌≤◌, ℕ, length, slice_get}
use Rattle.server_core.specs.Marks.{Anywhere, KeepsRows, RoomBy}
use Rattle.server_core.proofs.marks.requests.reserve_all.Given as goal

abbrev pub invariant-loop-place : goal.invariant-loop-place
invariant-loop-place l = record {
  kept : KeepsRows Anywhere l.fn.rows l.rows;
  room : (place : ℕ) → place < l.place → RoomBy (slice_get l.rows place) l.slot;
  inside : l.place ≤ l.place-end;
  count : l.place-end ≡ length l.rows;
}
