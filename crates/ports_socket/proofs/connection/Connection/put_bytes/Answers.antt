use Rattle.ports_socket.specs.Waiting.{waiting_in}
use Rattle.ports_socket.proofs.WaitingLemmas.{taken_after}
use Rattle.ports_socket.proofs.connection.Connection.put_bytes.Goals as goal

pub returns-clause-order : goal.returns-clause-order
returns-clause-order c =
    taken_after (waiting_in c.args.self.now.unsent) (waiting_in c.make_room.new.self.unsent) c.args.bytes.now
    c.gather.result (waiting_in c.gather.new.self.unsent) c.make_room.ensures.gone c.gather.ensures.order
