use Rattle.std.proofs.Common.{arith, subst}
use Rattle.ports.specs.Decisions.{Decides}
use Rattle.event_loop.proofs.TrafficLemmas.{packets-told}
use Rattle.event_loop.proofs.deciding.tell_packets.Goals as goal

pub returns-then-packets-gt0-clause-decides : goal.returns-then-packets-gt0-clause-decides
returns-then-packets-gt0-clause-decides g c =
    subst (λ said. Decides (g.P.Ports.decided c.args.ports.now) (g.P.Ports.decided c.tell.new.self) said)
    (packets-told c.args.config.now c.args.port c.args.place c.args.packets c.place_codes.result c.place_codes.ensures
    (omega arith)) c.tell.ensures.decides
