use Rattle.std.proofs.Common.{◌≡◌, ◌<◌, drop, length, slice_get}
use Rattle.transfer.specs.Cursors.{entry_cursors}
use Rattle.transfer.proofs.cursors.cursor.Given as goal

-- The request that is looked for is among the rest.
abbrev pub invariant-loop-entry : goal.invariant-loop-entry
invariant-loop-entry l =
    (slice_get (entry_cursors (drop l.entry-index l.entry-items)) l.left ≡ slice_get (entry_cursors l.entry-items) l.i)
    × (l.left < length (entry_cursors (drop l.entry-index l.entry-items)))
