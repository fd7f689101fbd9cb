use Rattle.std.proofs.Common.{All}
use Rattle.status_ports.specs.Doors.{AskersValue, IsHeldFor}
use Rattle.status_ports.proofs.ports.slots_for.Given as goal

abbrev pub invariant-loop : goal.invariant-loop
invariant-loop l = (a : AskersValue) → All (IsHeldFor a) l.slots.items
