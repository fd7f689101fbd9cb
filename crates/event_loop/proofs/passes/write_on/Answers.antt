use Rattle.std.proofs.Common.{◌≡◌, arith, subst, sym}
use Rattle.server_core.specs.ServerValues.{ServerValue, StandsAt}
use Rattle.event_loop.specs.declared.passes.Onward.TheVariants.{Stop, Over}
use Rattle.event_loop.specs.declared.seat.Seat.{Seat}
use Rattle.event_loop.specs.Going.{Once}
use Rattle.event_loop.specs.Offering.{OnceOffered}
use Rattle.event_loop.specs.Passes.{ClientWrites}
use Rattle.event_loop.proofs.FillLemmas.{none-filled, pieces-on}
use Rattle.event_loop.proofs.OfferingLemmas.{wrote-on}
use Rattle.event_loop.proofs.passes.write_on.Goals as goal

pub returns-then-filled-gt0-clause-goes : goal.returns-then-filled-gt0-clause-goes
returns-then-filled-gt0-clause-goes g c = λ t config w offers.
    let calls = g.P.Ports.calls in
    pieces-on config w c.args.client.now (calls c.args.ports.now) (calls c.hand_pieces-filled.new.ports)
    c.hand_pieces-filled.new.server t c.args.seat.now c.hand_pieces-filled.result c.requires.role c.requires.writable
    (c.hand_pieces-filled.ensures.hands config w offers)

pub returns-in-Took-clause-goes : goal.returns-in-Took-clause-goes
returns-in-Took-clause-goes g c = λ t config w offers.
    let calls = g.P.Ports.calls in
    let k = c.args.client.now in
    let mid = c.hand_pieces-filled.new.server in
    let none : c.hand_pieces-filled.result.count ≡ 0 = omega arith in
    let there = none-filled config w k c.args.seat.now.port (calls c.args.ports.now)
    (calls c.hand_pieces-filled.new.ports) c.hand_pieces-filled.result mid none
    (c.hand_pieces-filled.ensures.hands config w offers) in
    let same = c.in-Took.ensures.unchanged in
    subst (λ z. OnceOffered config k w (calls c.args.ports.now) z c.go_on.new.server t c.args.seat.now c.hand.new.seat
    c.go_on.result 1) (sym c.go_on.ensures.calls)
    (subst (λ b. OnceOffered config k w b (calls c.hand.new.ports) c.go_on.new.server t c.args.seat.now c.hand.new.seat
    c.go_on.result 1) (c.hand_pieces-filled.ensures.nothing none)
    (subst (λ (s : Seat). OnceOffered config k w (calls c.hand_pieces-filled.new.ports) (calls c.hand.new.ports)
    c.go_on.new.server t c.args.seat.now s c.go_on.result 1) (sym same.1)
    (wrote-on config w k c.in-Took.count (calls c.hand_pieces-filled.new.ports) (calls c.hand.new.ports)
    mid c.go_on.new.server t c.args.seat.now c.hand_pieces-filled.result.found c.go_on.result there
    (c.in-Took.ensures.hands t config w there)
    (λ v stands. c.go_on.ensures.stands config v
    (subst (λ (x : ServerValue). StandsAt x config v) (sym same.0) stands))
    (λ v stands. c.go_on.ensures.answer config v
    (subst (λ (x : ServerValue). StandsAt x config v) (sym same.0) stands)))))

pub returns-in-Stopped-clause-goes : goal.returns-in-Stopped-clause-goes
returns-in-Stopped-clause-goes g c = λ t config w offers.
    let calls = g.P.Ports.calls in
    let k = c.args.client.now in
    let none : c.hand_pieces-filled.result.count ≡ 0 = omega arith in
    subst (λ b. Once (ClientWrites config k) config w b (calls c.hand.new.ports) c.hand.new.server t t c.args.seat.now
    c.hand.new.seat Stop) (c.hand_pieces-filled.ensures.nothing none)
    (c.in-Stopped.ensures.hands t config w
    (none-filled config w k c.args.seat.now.port (calls c.args.ports.now)
    (calls c.hand_pieces-filled.new.ports) c.hand_pieces-filled.result c.hand_pieces-filled.new.server none
    (c.hand_pieces-filled.ensures.hands config w offers)))

pub returns-in-Closed-clause-goes : goal.returns-in-Closed-clause-goes
returns-in-Closed-clause-goes g c = λ t config w offers.
    let calls = g.P.Ports.calls in
    let k = c.args.client.now in
    let none : c.hand_pieces-filled.result.count ≡ 0 = omega arith in
    subst (λ b. Once (ClientWrites config k) config w b (calls c.hand.new.ports) c.hand.new.server t t c.args.seat.now
    c.hand.new.seat Over) (c.hand_pieces-filled.ensures.nothing none)
    (c.in-Closed.ensures.hands t config w
    (none-filled config w k c.args.seat.now.port (calls c.args.ports.now)
    (calls c.hand_pieces-filled.new.ports) c.hand_pieces-filled.result c.hand_pieces-filled.new.server none
    (c.hand_pieces-filled.ensures.hands config w offers)))
