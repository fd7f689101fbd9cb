use Rattle.std.proofs.Common.{arith, length, subst}
use Rattle.session_state.specs.declared.choices.Ahead.{Ahead}
use Rattle.session_state.specs.Orders.{IsOrder, IsReady}
use Rattle.session_state.proofs.OrderLemmas.{ready-only}
use Rattle.session_state.proofs.order.bring_the_only.Goals as goal

pub returns-in-Only : goal.returns-in-Only
returns-in-Only c =
    let n = length c.args.entries.now in
    let new = c.to_front.new.order in
    let is : IsOrder new n = subst (IsOrder new) c.requires.order.count c.to_front.ensures.order in
    let ready = subst (λ (b : Ahead). IsReady b c.args.i c.args.entries.now c.args.order.now) c.in-Only.is
    c.requires.ready in
    record {
      order = is;
      sorted = ready-only n c.args.i c.in-Only.j c.args.entries.now new is
          (λ low. c.to_front.ensures.front (omega (arith, low, c.requires.order.count))) ready;
    }
