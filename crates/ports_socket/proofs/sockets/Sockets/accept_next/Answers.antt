use Rattle.ports_socket.proofs.SocketLemmas.{opens_sends}
use Rattle.ports_socket.proofs.sockets.Sockets.accept_next.Goals as goal

pub returns-in-Some-hold-clause-sends : goal.returns-in-Some-hold-clause-sends
returns-in-Some-hold-clause-sends c =
    opens_sends c.in-Some-hold.number c.args.self.now.connections c.hold.new.self.connections
    (rw c.accept.ensures.connections at c.in-Some-hold.ensures.opens)
