-- The header was judged, and what stands behind it may be anything.
use Rattle.std.proofs.Common.{sym, ◌∙◌, arith}
use Rattle.sl_packet.proofs.ByteLemmas.{rest_continues}
use Rattle.sl_packet.proofs.packets.may_begin.Goals as goal

pub returns : goal.returns
returns c = sym (rest_continues 0 c.loop-index.index c.args.bytes.now (omega arith)) ∙ c.loop-index.invariant
