use Rattle.std.proofs.Common.{◌≡◌}
use Rattle.ports_socket.proofs.sockets.Sockets.next_due.Given as goal

abbrev pub invariant-due : goal.invariant-due
invariant-due l = record {
  polling : l.self.polling ≡ l.fn.self.polling;
  peers : l.self.peers ≡ l.fn.self.peers;
  polls : l.self.polls ≡ l.fn.self.polls;
  joins : l.self.joins ≡ l.fn.self.joins;
  connections : l.self.connections ≡ l.fn.self.connections;
}
