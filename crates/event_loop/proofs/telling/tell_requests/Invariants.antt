use Rattle.std.proofs.Common.{◌≡◌, take}
use Rattle.ports.specs.Decisions.{Decides}
use Rattle.event_loop.specs.Telling.{requests_said}
use Rattle.event_loop.proofs.telling.tell_requests.Given as goal

abbrev pub invariant-loop-entry : goal.invariant-loop-entry
invariant-loop-entry g l = record {
  calls : g.P.Ports.calls l.ports ≡ g.P.Ports.calls l.fn.ports;
  failures : g.P.Ports.failures l.ports ≡ g.P.Ports.failures l.fn.ports;
  decides : Decides (g.P.Ports.decided l.fn.ports) (g.P.Ports.decided l.ports)
      (requests_said l.config l.port (take l.entry-index l.entries));
}
