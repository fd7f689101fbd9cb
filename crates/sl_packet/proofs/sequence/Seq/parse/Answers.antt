use Rattle.std.proofs.Common.{arith}
use Rattle.sl_packet.proofs.NumberLemmas.{power_six}
use Rattle.sl_packet.proofs.sequence.Seq.parse.Goals as goal

pub overflow_mul-number : goal.overflow_mul-number
overflow_mul-number c =
    omega (arith, power_six c.loop-byte.byte-index c.loop-byte.number (omega arith) c.loop-byte.invariant.below)

pub overflow_add-number : goal.overflow_add-number
overflow_add-number c =
    omega (
      arith,
      power_six c.loop-byte.byte-index c.loop-byte.number (omega arith) c.loop-byte.invariant.below,
      c.in_ok-number.ensures.below,
    )

pub invariant_of-result : goal.invariant_of-result
invariant_of-result c = power_six c.loop-byte.byte-index c.loop-byte.number (omega arith) c.loop-byte.invariant.below
