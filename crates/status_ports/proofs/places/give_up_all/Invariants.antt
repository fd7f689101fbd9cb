use Rattle.std.proofs.Common.{All}
use Rattle.status_ports.specs.Doors.{AskersValue, IsHeldFor}
use Rattle.status_ports.proofs.places.give_up_all.Given as goal

abbrev pub invariant-loop-slot : goal.invariant-loop-slot
invariant-loop-slot l = (a : AskersValue) → All (IsHeldFor a) l.fn.slots → All (IsHeldFor a) l.slots
