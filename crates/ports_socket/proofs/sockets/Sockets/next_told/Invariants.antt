use Rattle.std.proofs.Common.{◌≡◌, length}
use Rattle.ports_socket.specs.Connections.{OnlySends, sockets_of}
use Rattle.ports_socket.proofs.sockets.Sockets.next_told.Given as goal

abbrev pub invariant-events : goal.invariant-events
invariant-events l = record {
  peers : l.self.peers ≡ l.fn.self.peers;
  polls : l.self.polls ≡ l.fn.self.polls;
  joins : l.self.joins ≡ l.fn.self.joins;
  sends : OnlySends l.fn.self.connections l.self.connections;
  sockets : sockets_of l.self.connections ≡ sockets_of l.fn.self.connections;
}

abbrev pub decreases-events : goal.decreases-events
decreases-events l = length l.self.polling.happened.items
