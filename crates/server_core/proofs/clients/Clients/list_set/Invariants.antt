use Rattle.std.proofs.Common.{◌≡◌, ◌<◌, ◌≤◌, ◌-◌, true}
use Rattle.server_core.specs.Rows.{bit_of}
use Rattle.server_core.proofs.AmongLemmas.{AllAmong, OnlyAmong}
use Rattle.server_core.proofs.clients.Clients.list_set.Given as goal

abbrev pub invariant-slots : goal.invariant-slots
invariant-slots l = record {
  among : AllAmong l.self.numbers.items l.row l.slot l.some.items;
  only : OnlyAmong l.self.opened.items l.row l.some.items;
  here : (l.slot < l.end → bit_of l.row l.slot ≡ true);
  fits : l.slot ≤ l.end;
}

abbrev pub decreases-slots : goal.decreases-slots
decreases-slots l = l.end - l.slot
