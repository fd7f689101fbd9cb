use Rattle.std.proofs.Common.{subst, sym, ◌∙◌}
use Rattle.ports_socket.specs.Connections.{OnlySends}
use Rattle.ports_socket.proofs.HeldLemmas.{kept-sockets, kept-table, kept-writes, unchanged}
use Rattle.ports_socket.proofs.SocketLemmas.{sends_none, writes_nothing}
use Rattle.ports_socket.proofs.connections.Connections.write.Goals as goal

pub returns-then-not-is_port-clause-writes : goal.returns-then-not-is_port-clause-writes
returns-then-not-is_port-clause-writes c =
    let same = unchanged c.self.inside.slots c.self.inside.opened.items c.args.place.key c.in-Some.held.now
    (sym c.in-Some.ensures.value) ∙ c.self.view_is in
    writes_nothing c.args.place.number c.args.bytes.now c.args.self.now _
    (subst (λ vs. OnlySends c.args.self.now vs) (sym same) (sends_none c.args.self.now))

pub invariant_of-self-2 : goal.invariant_of-self-2
invariant_of-self-2 c =
    let port = c.is_port.ensures.0 c.if-not-is_port.false in
    kept-table c.self.inside.slots c.self.inside.opened.items c.args.place.key c.in-Some.held.now c.self.invariant
    (sym c.in-Some.ensures.value) port.0 c.args.place.number port.1 c.write.new.self c.write.ensures.socket

pub returns-clause-writes : goal.returns-clause-writes
returns-clause-writes c =
    let port = c.is_port.ensures.0 c.if-not-is_port.false in
    rw (← c.self.view_is)
    (kept-writes c.self.inside.slots c.self.inside.opened.items c.args.place.key c.in-Some.held.now c.self.invariant
    (sym c.in-Some.ensures.value) port.0 c.args.place.number port.1 c.write.new.self c.write.ensures.socket
    c.args.bytes.now c.write.result c.write.ensures.order c.write.ensures.ahead)

pub returns-clause-sockets : goal.returns-clause-sockets
returns-clause-sockets c =
    let port = c.is_port.ensures.0 c.if-not-is_port.false in
    rw (← c.self.view_is)
    (kept-sockets c.self.inside.slots c.self.inside.opened.items c.args.place.key c.in-Some.held.now c.self.invariant
    (sym c.in-Some.ensures.value) port.0 c.args.place.number port.1 c.write.new.self c.write.ensures.socket)
