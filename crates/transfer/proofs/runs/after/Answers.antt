use Rattle.std.proofs.Common.{arith}
use Rattle.transfer.proofs.runs.after.Goals as goal

pub overflow_add-next : goal.overflow_add-next
overflow_add-next c =
    omega (arith, c.requires.there.before, c.arrivals-arrivals.ensures.value, c.arrivals-arrivals.type_inv)
