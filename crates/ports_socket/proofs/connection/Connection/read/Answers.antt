use Rattle.ports_socket.proofs.ReadLemmas.{gives_of_client}
use Rattle.ports_socket.proofs.connection.Connection.read.Goals as goal

pub returns-in-Client-clause-gives : goal.returns-in-Client-clause-gives
returns-in-Client-clause-gives c =
    gives_of_client c.args.self.now.kind c.args.self.now.ahead c.read_client.new.self.ahead _
    c.args.self.now.of_feeds c.in-Client.is
