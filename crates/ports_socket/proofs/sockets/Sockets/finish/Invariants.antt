use Rattle.std.proofs.Common.{◌≡◌}
use Rattle.ports_socket.specs.Connections.{OnlySends, sockets_of}
use Rattle.ports_socket.proofs.sockets.Sockets.finish.Given as goal

abbrev pub invariant-polls : goal.invariant-polls
invariant-polls l = record {
  peers : l.self.peers ≡ l.fn.self.peers;
  sends : OnlySends l.fn.self.connections l.self.connections;
  sockets : sockets_of l.self.connections ≡ sockets_of l.fn.self.connections;
}
