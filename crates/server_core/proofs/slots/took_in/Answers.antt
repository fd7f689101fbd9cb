use Rattle.std.proofs.Common.{◌≡◌, sym, Some}
use Rattle.slab.specs.Slab.{get, with_value, Updates}
use Rattle.server_core.proofs.MarkLemmas.{marked-took}
use Rattle.server_core.proofs.StandsLemmas.{some-took}
use Rattle.server_core.proofs.SlotLemmas.{settled-goes, stays-open, wrote}
use Rattle.server_core.proofs.slots.took_in.Goals as goal

there : (c : goal.After-slots-in-Some-1) → get c.args.slots.now c.args.slot ≡ Some c.in-Some.session.now
there c = sym c.in-Some.ensures.value

updated : (c : goal.After-slots-in-Some-1)
    → Updates c.args.slots.now (with_value c.args.slots.now c.args.slot c.took-settled.new.session) c.args.slot
    (Some c.took-settled.new.session)
updated c = wrote c.args.slots.now c.args.slot c.in-Some.session.now c.took-settled.new.session (there c)

pub took-settled-requires-clause-settled : goal.took-settled-requires-clause-settled
took-settled-requires-clause-settled c =
    c.requires.settled c.args.slot c.in-Some.session.now (sym c.in-Some.ensures.value)

pub took-settled-requires-clause-some : goal.took-settled-requires-clause-some
took-settled-requires-clause-some c = (c.requires.count c.in-Some.session.now (sym c.in-Some.ensures.value)).0

pub took-settled-requires-clause-waiting : goal.took-settled-requires-clause-waiting
took-settled-requires-clause-waiting c = (c.requires.count c.in-Some.session.now (sym c.in-Some.ensures.value)).1

pub took-requires : goal.took-requires
took-requires c = let is = c.requires.marked.held c.args.slot c.in-Some.session.now
    (sym c.in-Some.ensures.value) in is.room

pub returns-in-Some-clause-changed : goal.returns-in-Some-clause-changed
returns-in-Some-clause-changed c = λ h holds.
    let counts = c.requires.count c.in-Some.session.now (there c) in
    some-took c.args.config.now h c.args.slots.now
    (with_value c.args.slots.now c.args.slot c.took-settled.new.session) c.args.slot c.args.count
    c.in-Some.session.now c.took-settled.new.session (there c) (updated c) counts.0 counts.1
    (c.took-settled.ensures.client h holds) c.took-settled.ensures.places

pub returns-in-Some-clause-settled : goal.returns-in-Some-clause-settled
returns-in-Some-clause-settled c =
    settled-goes c.args.config.now c.args.rings.now c.args.slots.now
    (with_value c.args.slots.now c.args.slot c.took-settled.new.session) c.args.slot c.took-settled.new.session
    c.requires.settled c.took-settled.ensures.settled (updated c)

pub returns-in-Some-clause-marked : goal.returns-in-Some-clause-marked
returns-in-Some-clause-marked c =
    marked-took c.args.config.now c.args.rings.now c.args.marks.now c.took.new.self c.args.slots.now
    (with_value c.args.slots.now c.args.slot c.took-settled.new.session) c.args.slot c.in-Some.session.now
    c.took-settled.new.session
    c.requires.marked (there c) (updated c) c.took.ensures.kept c.took-settled.result c.args.count
    (c.requires.count c.in-Some.session.now (there c)).0 (c.requires.count c.in-Some.session.now (there c)).1
    c.took.ensures.marked c.took.ensures.sends c.took.ensures.rest c.took-settled.ensures.kept c.took.ensures.started

pub returns-in-Some-clause-kept : goal.returns-in-Some-clause-kept
returns-in-Some-clause-kept c =
    stays-open c.args.slots.now (with_value c.args.slots.now c.args.slot c.took-settled.new.session) c.args.slot
    c.took-settled.new.session (updated c)
