use Rattle.std.proofs.Common.{◌<◌, ◌∙◌, ap, arith, option_map, sym, Some}
use Rattle.slab.specs.Slab.{with_value}
use Rattle.server_core.specs.Refusals.{offer_of}
use Rattle.server_core.specs.ServerValues.{client_of_open, open_client}
use Rattle.server_core.proofs.FillLemmas.{hands-in-slot}
use Rattle.server_core.proofs.MarkLemmas.{marked-still, marked-went-on}
use Rattle.server_core.proofs.SlotLemmas.{settled-goes, wrote}
use Rattle.server_core.proofs.slots.fill_in.Goals as goal

pub hand_packets-filling-requires-clause-settled : goal.hand_packets-filling-requires-clause-settled
hand_packets-filling-requires-clause-settled c =
    c.requires.settled c.args.slot c.in-Some.session.now (sym c.in-Some.ensures.value)

pub returns-then-filling-eq0-clause-settled : goal.returns-then-filling-eq0-clause-settled
returns-then-filling-eq0-clause-settled c =
    settled-goes c.args.config.now c.args.rings.now c.args.slots.now
    (with_value c.args.slots.now c.args.slot c.hand_packets-filling.new.session) c.args.slot
    c.hand_packets-filling.new.session
    c.requires.settled c.hand_packets-filling.ensures.settled
    (wrote c.args.slots.now c.args.slot c.in-Some.session.now c.hand_packets-filling.new.session
    (sym c.in-Some.ensures.value))

pub returns-then-filling-eq0-clause-marked : goal.returns-then-filling-eq0-clause-marked
returns-then-filling-eq0-clause-marked c =
    marked-still c.args.config.now c.args.rings.now c.args.marks.now c.args.slots.now
    (with_value c.args.slots.now c.args.slot c.hand_packets-filling.new.session) c.args.slot c.in-Some.session.now
    c.hand_packets-filling.new.session c.requires.marked (sym c.in-Some.ensures.value)
    (wrote c.args.slots.now c.args.slot c.in-Some.session.now c.hand_packets-filling.new.session
    (sym c.in-Some.ensures.value))
    (c.hand_packets-filling.ensures.unchanged c.if-filling-eq0.true)

pub went_on-requires : goal.went_on-requires
went_on-requires c = let is = c.requires.marked.held c.args.slot c.in-Some.session.now
    (sym c.in-Some.ensures.value) in is.room

pub returns-else-filling-eq0-clause-hands : goal.returns-else-filling-eq0-clause-hands
returns-else-filling-eq0-clause-hands c = λ h holds.
    hands-in-slot c.args.config.now h c.args.slots.now
    (with_value c.args.slots.now c.args.slot c.hand_packets-filling.new.session) c.args.slot
    c.hand_packets-filling.result.count c.in-Some.session.now c.hand_packets-filling.new.session c.args.out.now.items
    c.hand_packets-filling.new.out.items (sym c.in-Some.ensures.value)
    (wrote c.args.slots.now c.args.slot c.in-Some.session.now c.hand_packets-filling.new.session
    (sym c.in-Some.ensures.value))
    (c.hand_packets-filling.ensures.hands h holds)

pub returns-else-filling-eq0-clause-settled : goal.returns-else-filling-eq0-clause-settled
returns-else-filling-eq0-clause-settled c =
    settled-goes c.args.config.now c.args.rings.now c.args.slots.now
    (with_value c.args.slots.now c.args.slot c.hand_packets-filling.new.session) c.args.slot
    c.hand_packets-filling.new.session
    c.requires.settled c.hand_packets-filling.ensures.settled
    (wrote c.args.slots.now c.args.slot c.in-Some.session.now c.hand_packets-filling.new.session
    (sym c.in-Some.ensures.value))

pub returns-else-filling-eq0-clause-marked : goal.returns-else-filling-eq0-clause-marked
returns-else-filling-eq0-clause-marked c =
    let some : 0 < c.hand_packets-filling.result.count = omega (arith, c.if-filling-eq0.false) in
    let size = c.hand_packets-filling.ensures.some some in
    marked-went-on c.args.config.now c.args.rings.now c.args.marks.now c.went_on.new.self c.args.slots.now
    (with_value c.args.slots.now c.args.slot c.hand_packets-filling.new.session) c.args.slot c.in-Some.session.now
    c.hand_packets-filling.new.session
    c.requires.marked (sym c.in-Some.ensures.value)
    (wrote c.args.slots.now c.args.slot c.in-Some.session.now c.hand_packets-filling.new.session
    (sym c.in-Some.ensures.value))
    c.went_on.ensures.kept c.hand_packets-filling.result.settled c.hand_packets-filling.result.found 520
    (omega arith) (omega (arith, size))
    c.went_on.ensures.marked c.went_on.ensures.sends c.went_on.ensures.rest
    c.hand_packets-filling.ensures.kept c.went_on.ensures.started c.hand_packets-filling.ensures.idle

pub returns-else-filling-eq0-clause-answer : goal.returns-else-filling-eq0-clause-answer
returns-else-filling-eq0-clause-answer c = λ h holds was.
    let some : 0 < c.hand_packets-filling.result.count = omega (arith, c.if-filling-eq0.false) in
    let updates = wrote c.args.slots.now c.args.slot c.in-Some.session.now c.hand_packets-filling.new.session
    (sym c.in-Some.ensures.value) in
    ap Some (c.hand_packets-filling.ensures.found some h holds)
    ∙ ap (λ o. option_map offer_of (client_of_open (open_client c.args.config.now h (Some o)))) (sym updates.changed)
