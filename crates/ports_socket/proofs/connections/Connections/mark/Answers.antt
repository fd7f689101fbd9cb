use Rattle.std.proofs.Common.{List, map, refl, subst, sym, ℕ}
use Rattle.std.specs.List.{Contains}
use Rattle.mio.specs.declared.net.stream.TcpStream.{TcpStream}
use Rattle.ports_socket.proofs.HeldLemmas.{kept-sends, kept-sockets, kept-table, open-contains}
use Rattle.ports_socket.proofs.connections.Connections.mark.Goals as goal

pub invariant_of-self-2 : goal.invariant_of-self-2
invariant_of-self-2 c =
    kept-table c.self.inside.slots c.self.inside.opened.items c.args.key c.in_ok-held.held.now c.self.invariant
    (sym c.in_ok-held.ensures.value) c.if-not-held.false c.in_ok-held.held.now.connection.number refl
    c.mark-told.new.self c.mark-told.ensures.socket

pub returns-clause-open : goal.returns-clause-open
returns-clause-open c =
    let h = c.in_ok-held.held.now in
    subst (λ (l : List (ℕ × TcpStream)). Contains (map (λ s. s.0) l) h.connection.number)
    (sym (kept-sockets c.self.inside.slots c.self.inside.opened.items c.args.key h c.self.invariant
    (sym c.in_ok-held.ensures.value) c.if-not-held.false h.connection.number refl
    c.mark-told.new.self c.mark-told.ensures.socket))
    (open-contains c.self.inside.slots c.self.inside.opened.items c.args.key h c.self.invariant
    (sym c.in_ok-held.ensures.value) c.if-not-held.false)

pub returns-clause-sends : goal.returns-clause-sends
returns-clause-sends c =
    rw (← c.self.view_is)
    (kept-sends c.self.inside.slots c.self.inside.opened.items c.args.key c.in_ok-held.held.now c.self.invariant
    (sym c.in_ok-held.ensures.value) c.if-not-held.false c.in_ok-held.held.now.connection.number refl
    c.mark-told.new.self c.mark-told.ensures.socket c.mark-told.ensures.gone c.mark-told.ensures.ahead)

pub returns-clause-sockets : goal.returns-clause-sockets
returns-clause-sockets c =
    rw (← c.self.view_is)
    (kept-sockets c.self.inside.slots c.self.inside.opened.items c.args.key c.in_ok-held.held.now c.self.invariant
    (sym c.in_ok-held.ensures.value) c.if-not-held.false c.in_ok-held.held.now.connection.number refl
    c.mark-told.new.self c.mark-told.ensures.socket)
