use Rattle.std.proofs.Common.{◌≡◌, take}
use Rattle.ports.specs.Decisions.{Decides}
use Rattle.event_loop.specs.Decided.{cuts_in}
use Rattle.event_loop.proofs.deciding.tell_cut.Given as goal

abbrev pub invariant-loop-seat : goal.invariant-loop-seat
invariant-loop-seat g l = record {
  calls : g.P.Ports.calls l.ports ≡ g.P.Ports.calls l.fn.ports;
  failures : g.P.Ports.failures l.ports ≡ g.P.Ports.failures l.fn.ports;
  decides : Decides (g.P.Ports.decided l.fn.ports) (g.P.Ports.decided l.ports)
      (cuts_in l.server (take l.seat-index l.seats));
}
