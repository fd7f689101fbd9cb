use Rattle.std.proofs.Common.{◌≡◌, length}
use Rattle.server_core.specs.Marks.{AreMarked}
use Rattle.server_core.specs.ServerValues.{AreSettled, StayOpen}
use Rattle.server_core.proofs.ReloadLemmas.{IsDone, IsLeft}
use Rattle.server_core.proofs.reviewing.review_all.Given as goal

abbrev pub invariant-loop-one : goal.invariant-loop-one
invariant-loop-one l = record {
  done : IsDone l.config l.opened l.initial.slots l.slots l.one-index;
  left : IsLeft l.config l.opened l.initial.slots l.slots l.one-index;
  settled : AreSettled l.config l.rings l.slots;
  marked : AreMarked l.config l.rings l.marks l.slots;
  stations : length l.marks.rows.items ≡ length l.initial.marks.rows.items;
  kept : StayOpen l.initial.slots l.slots;
}
