use Rattle.std.proofs.Common.{subst, sym, ◌∙◌}
use Rattle.ports_socket.specs.Connections.{OnlySends}
use Rattle.ports_socket.proofs.HeldLemmas.{kept-reads, kept-sockets, kept-table, unchanged}
use Rattle.ports_socket.proofs.SocketLemmas.{reads_nothing, sends_none}
use Rattle.ports_socket.proofs.connections.Connections.read.Goals as goal

pub returns-then-not-is_port-clause-reads : goal.returns-then-not-is_port-clause-reads
returns-then-not-is_port-clause-reads c =
    let same = unchanged c.self.inside.slots c.self.inside.opened.items c.args.place.key c.in-Some.held.now
    (sym c.in-Some.ensures.value) ∙ c.self.view_is in
    reads_nothing c.args.place.number c.args.self.now _
    (subst (λ vs. OnlySends c.args.self.now vs) (sym same) (sends_none c.args.self.now))

pub invariant_of-self-2 : goal.invariant_of-self-2
invariant_of-self-2 c =
    let port = c.is_port.ensures.0 c.if-not-is_port.false in
    kept-table c.self.inside.slots c.self.inside.opened.items c.args.place.key c.in-Some.held.now c.self.invariant
    (sym c.in-Some.ensures.value) port.0 c.args.place.number port.1 c.read.new.self c.read.ensures.socket

pub returns-clause-reads : goal.returns-clause-reads
returns-clause-reads c =
    let port = c.is_port.ensures.0 c.if-not-is_port.false in
    rw (← c.self.view_is)
    (kept-reads c.self.inside.slots c.self.inside.opened.items c.args.place.key c.in-Some.held.now c.self.invariant
    (sym c.in-Some.ensures.value) port.0 c.args.place.number port.1 c.read.new.self c.read.ensures.socket
    c.read.result _ c.read.ensures.gives c.read.ensures.unsent)

pub returns-clause-sockets : goal.returns-clause-sockets
returns-clause-sockets c =
    let port = c.is_port.ensures.0 c.if-not-is_port.false in
    rw (← c.self.view_is)
    (kept-sockets c.self.inside.slots c.self.inside.opened.items c.args.place.key c.in-Some.held.now c.self.invariant
    (sym c.in-Some.ensures.value) port.0 c.args.place.number port.1 c.read.new.self c.read.ensures.socket)
