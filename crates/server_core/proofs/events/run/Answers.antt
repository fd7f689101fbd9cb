use Rattle.std.proofs.Common.{◌≡◌, ◌∙◌, ap, sym, subst, arith, map, drop, List, []}
use Rattle.std.proofs.lemmas.Grind.{common_steps}
use Rattle.protocol.specs.World.{Event}
use Rattle.protocol.specs.Alone.{handed_to, own_view, seen}
use Rattle.protocol.specs.Offers.{arrivals, bytes_since, client_after, offers}
use Rattle.protocol.specs.Transfers.{HandsItsChoices, MissesNothing}
use Rattle.protocol.proofs.Transfers.{hands_seen, keeps_up_seen, misses_alone}
use Rattle.protocol.proofs.AloneLemmas.{isolated}
use Rattle.protocol.proofs.Views.{alike, without_hidden}
use Rattle.server_core.specs.Runs.{event_value, handed_value}
use Rattle.server_core.proofs.RunLemmas.{GoesWell, few-events, goes-on-well, next-event, ends-well}
use Rattle.server_core.proofs.events.run.Goals as goal

pub loop-event-preserved : goal.loop-event-preserved
loop-event-preserved c =
    goes-on-well c.args.config c.loop-event.server c.act.new.server _ _ _ (event_value c.event-item.result) _
    (few-events c.args.events.now c.count_of-count.result c.count_of-count.ensures c.count_of-count.type_inv)
    c.in_ok-act.ensures.stands c.in_ok-act.ensures.handed
    (subst (λ (left : List Event). GoesWell c.args.config c.loop-event.server (map handed_value c.loop-event.out.items)
    (map event_value c.args.events.now) left)
    (next-event c.args.events.now c.loop-event.event-index c.event-item.result (omega arith) c.event-item.is)
    c.loop-event.invariant)

pub returns-clause-isolation : goal.returns-clause-isolation
returns-clause-isolation c = λ k.
    let none : map event_value (drop c.loop-event.event-index c.args.events.now) ≡ [] = grind (arith, common_steps) in
    ap (handed_to k) (ends-well c.args.config c.loop-event.server _ _ _ none c.loop-event.invariant)
    ∙ isolated c.args.config (map event_value c.args.events.now) k

pub returns-clause-alike : goal.returns-clause-alike
returns-clause-alike c = λ other others k j view own.
    let none : map event_value (drop c.loop-event.event-index c.args.events.now) ≡ [] = grind (arith, common_steps) in
    ap (handed_to k) (ends-well c.args.config c.loop-event.server _ _ _ none c.loop-event.invariant)
    ∙ alike c.args.config other (map event_value c.args.events.now) others k j view own

pub returns-clause-hidden_stations : goal.returns-clause-hidden_stations
returns-clause-hidden_stations c = λ keep k kept accepted.
    let none : map event_value (drop c.loop-event.event-index c.args.events.now) ≡ [] = grind (arith, common_steps) in
    without_hidden c.args.config keep (map event_value c.args.events.now) k kept accepted
    ∙ sym (ap (handed_to k) (ends-well c.args.config c.loop-event.server _ _ _ none c.loop-event.invariant))

pub returns-clause-misses : goal.returns-clause-misses
returns-clause-misses c = λ k.
    let none : map event_value (drop c.loop-event.event-index c.args.events.now) ≡ [] = grind (arith, common_steps) in
    let es = map event_value c.args.events.now in
    let v = own_view c.args.config es k in
    let own = seen c.args.config es k in (
      misses_alone v own,
      subst (λ hs. HandsItsChoices (arrivals own) (client_after v own) (offers v own)
          (bytes_since v own (handed_to k hs)))
          (sym (ends-well c.args.config c.loop-event.server _ _ _ none c.loop-event.invariant))
          (hands_seen c.args.config es k),
    )

pub returns-clause-keeps_up : goal.returns-clause-keeps_up
returns-clause-keeps_up c = λ k keeps.
    let none : map event_value (drop c.loop-event.event-index c.args.events.now) ≡ [] = grind (arith, common_steps) in
    let es = map event_value c.args.events.now in
    let v = own_view c.args.config es k in
    let own = seen c.args.config es k in
    subst (λ hs. MissesNothing (arrivals own) (client_after v own) (offers v own) (bytes_since v own (handed_to k hs)))
    (sym (ends-well c.args.config c.loop-event.server _ _ _ none c.loop-event.invariant))
    (keeps_up_seen c.args.config es k keeps)
