use Rattle.std.proofs.Common.{◌<◌, ◌≡◌, ℕ, List, None, Option, Some, ap, arith, refl, subst, sym}
use Rattle.std.specs.Prelude.{IfSome}
use Rattle.protocol.specs.Client.{offered}
use Rattle.protocol.specs.History.{Arrival}
use Rattle.session_state.specs.Sessions.{client_in}
use Rattle.server_core.specs.declared.client.Offer.{Offer}
use Rattle.server_core.specs.Handing.{HandsPackets, offered_open_of}
use Rattle.server_core.specs.ServerValues.{HoldsOf, open_client_of}
use Rattle.server_core.proofs.FillLemmas.{hands-last, hands-none, hands-run}
use Rattle.server_core.proofs.MarkLemmas.{keeps-twice}
use Rattle.server_core.proofs.filling.hand_more.Goals as goal

pub packets-init : goal.packets-init
packets-init c = record {
  most = omega arith;
  hands = λ h holds.
      hands-none h (Some (offered_open_of c.args.config.now h c.args.session.now)) c.args.out.now.items;
  sends = c.requires.sends;
  kept = record { kept = λ sends. (sends, refl) };
  settled = c.requires.settled;
  left = omega arith;
  room = omega arith;
}

pub packets-preserved : goal.packets-preserved
packets-preserved c =
    let some : 0 < c.args.most = omega (arith, c.packets-test.true) in
    let step = c.hand_next-next.ensures in
    let next = c.hand_next-next.result in
    let more : next.found ≡ None = c.in-None.is in
    record {
      most = omega (arith, c.packets-test.true, step.most);
      hands = λ h holds.
          hands-run c.args.config.now h (Some (offered_open_of c.args.config.now h c.args.session.now))
          c.packets.session c.hand_next-next.new.session c.packets.count next.count c.args.out.now.items
          c.packets.out.items c.hand_next-next.new.out.items (c.packets.invariant.hands h holds)
          (c.packets.invariant.sends some) (step.handed more h holds) (step.same more);
      sends = λ lt. step.sends more;
      kept = keeps-twice c.args.session.now c.packets.session c.hand_next-next.new.session c.packets.invariant.kept
          step.kept;
      settled = step.settled;
      left = omega (arith, step.len, c.packets.invariant.left);
      room = omega (arith, step.room, c.packets.invariant.room);
    }

pub returns-in-Some-clause-hands : goal.returns-in-Some-clause-hands
returns-in-Some-clause-hands c = λ h holds.
    let step = c.hand_next-next.ensures in
    let found = c.in-Some.is in
    let unchanged : c.hand_next-next.new.out ≡ c.packets.out =
    subst (λ (o : Option Offer). IfSome o (λ f. c.hand_next-next.new.out ≡ c.packets.out)) found step.unchanged in
    let offers = subst (λ (o : Option Offer). IfSome o (λ f. (h : List Arrival)
    → HoldsOf c.args.config.now c.args.rings.now h → client_in c.args.config.now h c.hand_next-next.new.session
    ≡ offered h (client_in c.args.config.now h c.packets.session))) found step.offered in
    subst (λ (l : List ℕ). HandsPackets h (Some (offered_open_of c.args.config.now h c.args.session.now))
    (Some (open_client_of c.args.config.now h c.hand_next-next.new.session)) c.packets.count c.args.out.now.items l)
    (ap (λ o. o.items) (sym unchanged))
    (hands-last c.args.config.now h (Some (offered_open_of c.args.config.now h c.args.session.now)) c.packets.session
    c.hand_next-next.new.session c.packets.count c.args.out.now.items c.packets.out.items
    (c.packets.invariant.hands h holds) (offers h holds) step.places)

pub returns-clause-hands : goal.returns-clause-hands
returns-clause-hands c = λ h holds.
    hands-last c.args.config.now h (Some (offered_open_of c.args.config.now h c.args.session.now)) c.packets.session
    c.offer-found.new.session c.packets.count c.args.out.now.items c.packets.out.items
    (c.packets.invariant.hands h holds) (c.offer-found.ensures.client h holds) c.offer-found.ensures.places
