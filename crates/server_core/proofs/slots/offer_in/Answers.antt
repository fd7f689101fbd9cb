use Rattle.std.proofs.Common.{◌≡◌, ◌∙◌, ap, sym, Some}
use Rattle.slab.specs.Slab.{get, with_value, Updates}
use Rattle.server_core.specs.Refusals.{is_idle}
use Rattle.server_core.proofs.MarkLemmas.{idle-finds, marked-offered}
use Rattle.server_core.proofs.SlotLemmas.{settled-goes, stays-open, wrote}
use Rattle.server_core.proofs.slots.offer_in.Goals as goal

there : (c : goal.After-slots-in-Some-1) → get c.args.slots.now c.args.slot ≡ Some c.in-Some.session.now
there c = sym c.in-Some.ensures.value

updated : (c : goal.After-slots-in-Some-1)
    → Updates c.args.slots.now (with_value c.args.slots.now c.args.slot c.offer-found.new.session) c.args.slot
    (Some c.offer-found.new.session)
updated c = wrote c.args.slots.now c.args.slot c.in-Some.session.now c.offer-found.new.session (there c)

pub offer-found-requires : goal.offer-found-requires
offer-found-requires c = c.requires.settled c.args.slot c.in-Some.session.now (sym c.in-Some.ensures.value)

pub returns-in-Some-clause-settled : goal.returns-in-Some-clause-settled
returns-in-Some-clause-settled c =
    settled-goes c.args.config.now c.args.rings.now c.args.slots.now
    (with_value c.args.slots.now c.args.slot c.offer-found.new.session) c.args.slot c.offer-found.new.session
    c.requires.settled c.offer-found.ensures.settled (updated c)

pub returns-in-Some-clause-marked : goal.returns-in-Some-clause-marked
returns-in-Some-clause-marked c =
    marked-offered c.args.config.now c.args.rings.now c.args.marks.now c.offered.new.self c.args.slots.now
    (with_value c.args.slots.now c.args.slot c.offer-found.new.session) c.args.slot c.in-Some.session.now
    c.offer-found.new.session
    c.requires.marked (there c) (updated c) c.offered.ensures.kept c.offer-found.result c.offered.ensures.marked
    c.offered.ensures.sends c.offered.ensures.rest c.offer-found.ensures.kept c.offer-found.ensures.idle
    (λ idle. ap is_idle (c.offer-found.ensures.found c.requires.history.history c.requires.history.holds)
    ∙ idle-finds c.args.config.now c.requires.history.history c.args.rings.now c.in-Some.session.now
    c.requires.history.holds idle)

pub returns-in-Some-clause-kept : goal.returns-in-Some-clause-kept
returns-in-Some-clause-kept c =
    stays-open c.args.slots.now (with_value c.args.slots.now c.args.slot c.offer-found.new.session) c.args.slot
    c.offer-found.new.session (updated c)
