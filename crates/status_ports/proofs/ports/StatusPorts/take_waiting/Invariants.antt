use Rattle.std.proofs.Common.{◌≡◌}
use Rattle.status_ports.proofs.ports.StatusPorts.take_waiting.Given as goal

abbrev pub invariant-loop : goal.invariant-loop
invariant-loop l = l.self ≡ l.fn.self
