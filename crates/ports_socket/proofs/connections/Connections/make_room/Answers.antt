use Rattle.std.proofs.Common.{◌≤◌, subst, sym, ◌∙◌}
use Rattle.ports_socket.specs.Connections.{OnlySends}
use Rattle.ports_socket.proofs.HeldLemmas.{kept-sends, kept-sockets, kept-table, unchanged}
use Rattle.ports_socket.proofs.RoomLemmas.{room-changed}
use Rattle.ports_socket.proofs.SocketLemmas.{sends_none}
use Rattle.ports_socket.proofs.connections.Connections.make_room.Goals as goal

pub returns-then-not-is_port-clause-sends : goal.returns-then-not-is_port-clause-sends
returns-then-not-is_port-clause-sends c =
    let same = unchanged c.self.inside.slots c.self.inside.opened.items c.args.place.key c.in-Some.held.now
    (sym c.in-Some.ensures.value) ∙ c.self.view_is in
    subst (λ vs. OnlySends c.args.self.now vs) (sym same) (sends_none c.args.self.now)

pub invariant_of-self-2 : goal.invariant_of-self-2
invariant_of-self-2 c =
    let port = c.is_port.ensures.0 c.if-not-is_port.false in
    kept-table c.self.inside.slots c.self.inside.opened.items c.args.place.key c.in-Some.held.now c.self.invariant
    (sym c.in-Some.ensures.value) port.0 c.args.place.number port.1 c.reserve.new.self c.reserve.ensures.socket

pub returns-clause-room : goal.returns-clause-room
returns-clause-room c =
    let port = c.is_port.ensures.0 c.if-not-is_port.false in
    subst (λ n. c.reserve.result ≤ n)
    (sym (room-changed c.self.inside.slots c.self.inside.opened.items c.args.place.key c.in-Some.held.now
    c.args.place.number c.reserve.new.self c.self.invariant (sym c.in-Some.ensures.value) port.0 port.1
    c.reserve.ensures.socket))
    c.reserve.ensures.room

pub returns-clause-sends : goal.returns-clause-sends
returns-clause-sends c =
    let port = c.is_port.ensures.0 c.if-not-is_port.false in
    rw (← c.self.view_is)
    (kept-sends c.self.inside.slots c.self.inside.opened.items c.args.place.key c.in-Some.held.now c.self.invariant
    (sym c.in-Some.ensures.value) port.0 c.args.place.number port.1 c.reserve.new.self c.reserve.ensures.socket
    c.reserve.ensures.gone c.reserve.ensures.ahead)

pub returns-clause-sockets : goal.returns-clause-sockets
returns-clause-sockets c =
    let port = c.is_port.ensures.0 c.if-not-is_port.false in
    rw (← c.self.view_is)
    (kept-sockets c.self.inside.slots c.self.inside.opened.items c.args.place.key c.in-Some.held.now c.self.invariant
    (sym c.in-Some.ensures.value) port.0 c.args.place.number port.1 c.reserve.new.self c.reserve.ensures.socket)
