use Rattle.std.proofs.Common.{arith}
use Rattle.selector.proofs.PoolLemmas.{laid-empty}
use Rattle.selector.proofs.pool.Pool.new.Goals as goal

pub invariant_of-result : goal.invariant_of-result
invariant_of-result c =
    let h = c.in_ok-with_capacity.ensures in
    (laid-empty c.in_ok-with_capacity.field-0.items h.items, omega (arith, h.exact))
