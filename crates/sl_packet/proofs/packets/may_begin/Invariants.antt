use Rattle.std.proofs.Common.{◌≡◌, ◌+◌, drop}
use Rattle.protocol.specs.Streams.{may_continue}
use Rattle.sl_packet.proofs.packets.may_begin.Given as goal

abbrev pub invariant-loop-index : goal.invariant-loop-index
invariant-loop-index l = may_continue (0 + l.index) (drop l.index l.bytes) ≡ may_continue 0 l.bytes
