use Rattle.std.proofs.Common.{◌≡◌, ◌≤◌, length}
use Rattle.server_core.proofs.marks.requests.no_rows.Given as goal

abbrev pub invariant-loop-place : goal.invariant-loop-place
invariant-loop-place l = (length l.rows.items ≡ l._place) × (l._place ≤ l.count)
