use Rattle.std.proofs.Common.{subst}
use Rattle.ports.specs.Decisions.{Decides}
use Rattle.event_loop.proofs.DecidedLemmas.{request-told}
use Rattle.event_loop.proofs.telling.tell_request.Goals as goal

pub returns-in-Some-clause-decides : goal.returns-in-Some-clause-decides
returns-in-Some-clause-decides g c =
    subst (Decides (g.P.Ports.decided c.args.ports.now) (g.P.Ports.decided c.tell.new.self))
    (request-told c.args.config.now c.args.port c.args.entry.now c.in-Some.action c.place_codes-codes.result
    c.mode_of.result c.in-Some.ensures c.place_codes-codes.ensures c.mode_of.ensures) c.tell.ensures.decides
