use Rattle.std.proofs.Common.{subst, ◌<◌}
use Rattle.session_state.proofs.OrderLemmas.{order-lowered, sorted-lowered}
use Rattle.session_state.proofs.order.settle.Goals as goal

pub returns-clause-order : goal.returns-clause-order
returns-clause-order c =
    order-lowered _ c.place_of-place.result c.args.order.now c.lower.new.order c.requires.order
    (subst (λ x. c.place_of-place.result < x) c.requires.order.count c.place_of-place.ensures.within)
    (record {
      long = c.lower.ensures.length;
      there = c.lower.ensures.there;
      moved = c.lower.ensures.moved;
      rest = c.lower.ensures.rest;
    })

pub returns-clause-sorted : goal.returns-clause-sorted
returns-clause-sorted c =
    sorted-lowered _ c.place_of-place.result c.args.entries.now c.args.order.now c.lower.new.order c.requires.order
    (subst (λ x. c.place_of-place.result < x) c.requires.order.count c.place_of-place.ensures.within)
    (record {
      long = c.lower.ensures.length;
      there = c.lower.ensures.there;
      moved = c.lower.ensures.moved;
      rest = c.lower.ensures.rest;
    }) c.requires.sorted c.place_of-place.ensures.before c.place_of-place.ensures.after
