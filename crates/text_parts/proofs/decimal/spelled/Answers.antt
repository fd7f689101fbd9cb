use Rattle.std.proofs.Common.{arith}
use Rattle.text_parts.proofs.DigitLemmas.{power_nine}
use Rattle.text_parts.proofs.decimal.spelled.Goals as goal

pub overflow_mul-number : goal.overflow_mul-number
overflow_mul-number c =
    omega (arith, power_nine c.loop-byte.byte-index c.loop-byte.number (omega arith) c.loop-byte.invariant.below)

pub overflow_add-number : goal.overflow_add-number
overflow_add-number c =
    omega (
      arith,
      power_nine c.loop-byte.byte-index c.loop-byte.number (omega arith) c.loop-byte.invariant.below,
      c.in_ok-number.ensures.below,
    )
