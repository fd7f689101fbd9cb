use Rattle.std.proofs.Common.{◌≡◌, take}
use Rattle.ports.specs.Decisions.{Decides}
use Rattle.event_loop.specs.Decided.{all_packets_said}
use Rattle.event_loop.proofs.deciding.tell_all_packets.Given as goal

abbrev pub invariant-loop-index : goal.invariant-loop-index
invariant-loop-index g l = record {
  calls : g.P.Ports.calls l.ports ≡ g.P.Ports.calls l.fn.ports;
  failures : g.P.Ports.failures l.ports ≡ g.P.Ports.failures l.fn.ports;
  decides : Decides (g.P.Ports.decided l.fn.ports) (g.P.Ports.decided l.ports)
      (all_packets_said l.config l.port 0 (take l.index l.entries) l.packets);
}
