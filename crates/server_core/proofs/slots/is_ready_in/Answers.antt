use Rattle.std.proofs.Common.{◌≡◌, sym, Some}
use Rattle.slab.specs.Slab.{get, with_value, Updates}
use Rattle.server_core.proofs.MarkLemmas.{marked-looked, slot-looked, unmarked-answer, unmarked-idle}
use Rattle.server_core.proofs.SlotLemmas.{settled-goes, wrote}
use Rattle.server_core.proofs.slots.is_ready_in.Goals as goal

pub returns-then-not-is_marked-clause-answer : goal.returns-then-not-is_marked-clause-answer
returns-then-not-is_marked-clause-answer c = λ h holds.
    unmarked-answer c.args.config.now h c.args.rings.now c.args.marks.now c.args.slots.now c.args.slot holds
    c.requires.marked (sym c.if-not-is_marked.ensures) c.requires.there

pub returns-then-not-is_marked-clause-spared : goal.returns-then-not-is_marked-clause-spared
returns-then-not-is_marked-clause-spared c = λ h holds not-ready client is.
    (unmarked-idle c.args.config.now h c.args.rings.now c.args.marks.now c.args.slots.now c.args.slot holds
    c.requires.marked (sym c.if-not-is_marked.ensures) client is).0

there : (c : goal.After-slots-in-Some-1) → get c.args.slots.now c.args.slot ≡ Some c.in-Some.session.now
there c = sym c.in-Some.ensures.value

updated : (c : goal.After-slots-in-Some-1)
    → Updates c.args.slots.now (with_value c.args.slots.now c.args.slot c.is_ready.new.session) c.args.slot
    (Some c.is_ready.new.session)
updated c = wrote c.args.slots.now c.args.slot c.in-Some.session.now c.is_ready.new.session (there c)

pub returns-in-Some-clause-changed : goal.returns-in-Some-clause-changed
returns-in-Some-clause-changed c = λ h holds.
    slot-looked c.args.config.now h c.args.slots.now
    (with_value c.args.slots.now c.args.slot c.is_ready.new.session) c.args.slot c.in-Some.session.now
    c.is_ready.new.session (there c) (updated c)
    (c.is_ready.ensures.client c.args.config.now h
    (c.requires.settled c.args.slot c.in-Some.session.now (there c)) holds) c.is_ready.ensures.places

pub returns-in-Some-clause-settled : goal.returns-in-Some-clause-settled
returns-in-Some-clause-settled c =
    settled-goes c.args.config.now c.args.rings.now c.args.slots.now
    (with_value c.args.slots.now c.args.slot c.is_ready.new.session) c.args.slot c.is_ready.new.session
    c.requires.settled
    (c.is_ready.ensures.settled c.args.config.now (c.requires.settled c.args.slot c.in-Some.session.now (there c)))
    (updated c)

pub returns-in-Some-clause-marked : goal.returns-in-Some-clause-marked
returns-in-Some-clause-marked c =
    marked-looked c.args.config.now c.args.rings.now c.args.marks.now c.args.slots.now
    (with_value c.args.slots.now c.args.slot c.is_ready.new.session) c.args.slot c.in-Some.session.now
    c.is_ready.new.session
    c.requires.marked (there c) (updated c)
    (sym c.if-not-is_marked.ensures) c.is_ready.ensures.state c.is_ready.ensures.kept
