use Rattle.std.proofs.Common.{◌∙◌, arith, sym}
use Rattle.session_state.proofs.OrderLemmas.{found-raised, not-found, order-raised, sorted-all, sorted-raised}
use Rattle.session_state.proofs.order.to_front.Goals as goal

pub returns-in_default-clause-front : goal.returns-in_default-clause-front
returns-in_default-clause-front c = λ low.
    let far = not-found _ c.args.i c.args.order.now c.requires (sym c.find.ensures ∙ c.in_default.is) in
    absurd (omega (arith, far, low))

pub returns-in_default-clause-sorted : goal.returns-in_default-clause-sorted
returns-in_default-clause-sorted c = λ es sorted.
    sorted-all _ c.args.i 1 es c.args.order.now c.requires
    (not-found _ c.args.i c.args.order.now c.requires (sym c.find.ensures ∙ c.in_default.is)) sorted

pub returns-in-Some-clause-order : goal.returns-in-Some-clause-order
returns-in-Some-clause-order c =
    let found = found-raised _ c.args.i c.in-Some.place c.args.order.now c.requires
    (sym c.find.ensures ∙ c.in-Some.is) in
    order-raised _ c.in-Some.place c.args.order.now c.raise.new.order c.requires found.0
    (record {
      long = c.raise.ensures.length;
      front = c.raise.ensures.front;
      moved = c.raise.ensures.moved;
      rest = c.raise.ensures.rest;
    })

pub returns-in-Some-clause-front : goal.returns-in-Some-clause-front
returns-in-Some-clause-front c = λ low.
    let found = found-raised _ c.args.i c.in-Some.place c.args.order.now c.requires
    (sym c.find.ensures ∙ c.in-Some.is) in
    c.raise.ensures.front ∙ found.1

pub returns-in-Some-clause-sorted : goal.returns-in-Some-clause-sorted
returns-in-Some-clause-sorted c = λ es sorted.
    let found = found-raised _ c.args.i c.in-Some.place c.args.order.now c.requires
    (sym c.find.ensures ∙ c.in-Some.is) in
    sorted-raised _ c.in-Some.place c.args.i es c.args.order.now c.raise.new.order c.requires found.0 found.1
    (record {
      long = c.raise.ensures.length;
      front = c.raise.ensures.front;
      moved = c.raise.ensures.moved;
      rest = c.raise.ensures.rest;
    }) sorted
