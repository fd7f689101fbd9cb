use Rattle.std.proofs.Common.{subst}
use Rattle.ports_socket.specs.Connections.{WritesTo}
use Rattle.ports_socket.proofs.SocketLemmas.{writes_on}
use Rattle.ports_socket.proofs.sockets.Sockets.write.Goals as goal

pub returns-clause-writes : goal.returns-clause-writes
returns-clause-writes c =
    writes_on c.args.port c.args.bytes.now c.write-put.result c.args.self.now.connections
    c.turn_to.new.self.connections c.write-put.new.self c.turn_to.ensures.sends c.turn_to.ensures.sockets
    (subst (λ n. WritesTo n c.args.bytes.now c.write-put.result c.turn_to.new.self.connections c.write-put.new.self)
    c.in-Some.ensures.number c.write-put.ensures.writes)
