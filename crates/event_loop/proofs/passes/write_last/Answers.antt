use Rattle.std.proofs.Common.{subst, sym}
use Rattle.server_core.specs.ServerValues.{ServerValue, StandsAt}
use Rattle.event_loop.specs.declared.seat.Seat.{Seat}
use Rattle.event_loop.specs.declared.passes.Onward.TheVariants.{On}
use Rattle.event_loop.specs.Going.{Once}
use Rattle.event_loop.specs.Passes.{ClientWrites}
use Rattle.event_loop.proofs.OfferingLemmas.{wrote-last}
use Rattle.event_loop.proofs.passes.write_last.Goals as goal

pub returns-in-Took-clause-goes : goal.returns-in-Took-clause-goes
returns-in-Took-clause-goes g c = λ t config w offers.
    let calls = g.P.Ports.calls in
    let same = c.in-Took.ensures.unchanged in
    subst (λ z. Once (ClientWrites config c.args.client.now) config w (calls c.args.ports.now) z c.took.new.server t t
    c.args.seat.now c.hand.new.seat On) (sym c.took.ensures.calls)
    (subst (λ (s : Seat). Once (ClientWrites config c.args.client.now) config w (calls c.args.ports.now)
    (calls c.hand.new.ports) c.took.new.server t t c.args.seat.now s On) (sym same.1)
    (wrote-last config w c.args.client.now c.in-Took.count (calls c.args.ports.now) (calls c.hand.new.ports)
    c.args.server.now c.took.new.server t c.args.seat.now c.args.found offers
    (c.in-Took.ensures.hands t config w offers)
    (λ v stands. c.took.ensures.stands config v
    (subst (λ (x : ServerValue). StandsAt x config v) (sym same.0) stands))))
