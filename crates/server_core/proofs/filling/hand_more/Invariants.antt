use Rattle.std.proofs.Common.{◌≤◌, ◌<◌, ◌≡◌, ◌+◌, ◌*◌, ◌-◌, Some, List, vec_capacity, vec_len}
use Rattle.protocol.specs.History.{Arrival}
use Rattle.server_core.specs.Handing.{HandsPackets, OnlySends, offered_open_of}
use Rattle.server_core.specs.Marks.{KeepsRequests}
use Rattle.server_core.specs.ServerValues.{HoldsOf, IsSettled}
use Rattle.server_core.proofs.filling.hand_more.Given as goal

abbrev pub invariant-packets : goal.invariant-packets
invariant-packets l = record {
  most : l.count ≤ l.most;
  hands : (h : List Arrival) → HoldsOf l.config l.rings h
      → HandsPackets h (Some (offered_open_of l.config h l.initial.session))
      (Some (offered_open_of l.config h l.session)) l.count l.initial.out.items l.out.items;
  sends : 0 < l.most → OnlySends l.session;
  kept : KeepsRequests l.initial.session l.session;
  settled : IsSettled l.config l.rings l.session;
  left : vec_len l.out ≡ vec_len l.initial.out + l.count * 520;
  room : vec_capacity l.initial.out ≤ vec_capacity l.out;
}

abbrev pub decreases-packets : goal.decreases-packets
decreases-packets l = l.most - l.count
