use Rattle.ports_socket.proofs.SocketLemmas.{writes_then}
use Rattle.ports_socket.proofs.sockets.Sockets.take_all.Goals as goal

pub returns-clause-writes : goal.returns-clause-writes
returns-clause-writes c =
    writes_then c.args.port c.args.bytes.now.items _ c.args.self.now.connections c.take_all.new.self
    c.turn_to-place.new.self.connections c.take_all.ensures.writes c.turn_to-place.ensures.sends
