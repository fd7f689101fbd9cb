use Rattle.std.proofs.Common.{◌≡◌, ◌+◌, length}
use Rattle.ports_socket.specs.Departures.{HaveReasons}
use Rattle.ports_socket.proofs.sockets.Sockets.join.Given as goal

abbrev pub invariant-waiting : goal.invariant-waiting
invariant-waiting l = record {
  polling : l.self.polling ≡ l.fn.self.polling;
  peers : l.self.peers ≡ l.fn.self.peers;
  connections : l.self.connections ≡ l.fn.self.connections;
  polls : l.self.polls ≡ l.fn.self.polls;
  count : l.self.joins.count ≡ l.fn.self.joins.count;
  away : l.self.joins.away ≡ l.fn.self.joins.away + length l.away;
  reasons : HaveReasons l.fn.self.peers.admission l.fn.self.peers.opened l.away;
}
