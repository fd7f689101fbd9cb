use Rattle.std.proofs.Common.{ap, subst, sym, ◌∙◌}
use Rattle.std.specs.List.{Contains}
use Rattle.ports_socket.specs.Connections.{ConnectionValue, numbers, values}
use Rattle.ports_socket.specs.Places.{connections_at}
use Rattle.ports_socket.proofs.HeldLemmas.{kept-table, kept-values, open-contains}
use Rattle.ports_socket.proofs.connections.Connections.set_listed.Goals as goal

pub invariant_of-self-2 : goal.invariant_of-self-2
invariant_of-self-2 c =
    let port = c.is_port.ensures.0 c.if-not-is_port.false in
    kept-table c.self.inside.slots c.self.inside.opened.items c.args.place.key c.in-Some.held.now c.self.invariant
    (sym c.in-Some.ensures.value) port.0 c.args.place.number port.1 c.set_listed.new.self
    (ap (λ (v : ConnectionValue). (v.number, v.stream)) c.set_listed.ensures)

pub returns-clause-open : goal.returns-clause-open
returns-clause-open c = λ yes.
    let port = c.is_port.ensures.0 c.if-not-is_port.false in
    let slots = c.self.inside.slots in
    let places = c.self.inside.opened.items in
    let same = kept-values slots places c.args.place.key c.in-Some.held.now c.self.invariant
    (sym c.in-Some.ensures.value) port.0 c.args.place.number port.1 c.set_listed.new.self
    (ap (λ (v : ConnectionValue). (v.number, v.stream)) c.set_listed.ensures) c.set_listed.ensures in
    subst (λ vs. Contains (numbers vs) c.args.place.number) (sym same)
    (subst (λ n. Contains (numbers (values (connections_at slots places))) n) port.1
    (open-contains slots places c.args.place.key c.in-Some.held.now c.self.invariant
    (sym c.in-Some.ensures.value) port.0))

pub returns-clause-same : goal.returns-clause-same
returns-clause-same c =
    let port = c.is_port.ensures.0 c.if-not-is_port.false in
    kept-values c.self.inside.slots c.self.inside.opened.items c.args.place.key c.in-Some.held.now c.self.invariant
    (sym c.in-Some.ensures.value) port.0 c.args.place.number port.1 c.set_listed.new.self
    (ap (λ (v : ConnectionValue). (v.number, v.stream)) c.set_listed.ensures) c.set_listed.ensures
    ∙ c.self.view_is
