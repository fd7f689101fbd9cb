use Rattle.std.proofs.Common.{◌≡◌, ◌+◌, ◌-◌, ◌/◌, nat_lt, get_or, ap, sym, arith}
use Rattle.catalog.specs.Orders.{rank_at}
use Rattle.catalog.proofs.OrderLemmas.{around_one, stepped}
use Rattle.catalog.proofs.view.border.Goals as goal

pub loop-left-preserved : goal.loop-left-preserved
loop-left-preserved c =
    let at = c.loop-left.at in
    let left = c.loop-left.left in
    let r = rank_at c.args.stations.now in
    let same : nat_lt (r (get_or c.args.by_codes.now (at + left / 2 - 1) 0)) c.args.rank
    ≡ nat_lt c.rank_at.result c.args.rank =
    ap (λ n. nat_lt n c.args.rank) (sym c.rank_at.ensures) in
    let next =
    stepped r c.args.rank c.args.by_codes.now at left c.step-at.result c.loop-left-test.true c.loop-left.invariant.inside
    (nat_lt c.rank_at.result c.args.rank) same c.step-at.ensures.yes c.step-at.ensures.no in
    record {
      inside = next.inside;
      last = next.last;
      around = λ rises. next.around rises (c.loop-left.invariant.around rises);
    }

pub returns-clause-border : goal.returns-clause-border
returns-clause-border c = λ rises.
    around_one (rank_at c.args.stations.now) c.args.rank c.args.by_codes.now rises c.loop-left.at c.loop-left.left
    (omega (arith, c.loop-left-test.false)) (c.loop-left.invariant.around rises)
