use Rattle.std.proofs.Common.{◌≡◌, ◌∙◌, Option, Some, ap, subst, sym, slice_get}
use Rattle.session_state.specs.Choices.{chosen_of}
use Rattle.session_state.specs.declared.choices.Entry.{Entry}
use Rattle.station_ring.specs.Rings.{RingValue}
use Rattle.transfer.specs.Cursors.{lost_in, with_lost}
use Rattle.transfer.proofs.LostLemmas.{nothing-asked, nowhere-lost}
use Rattle.transfer.proofs.NextLemmas.{asked-none, asked-some}
use Rattle.transfer.proofs.RestLemmas.{rests-nothing, rests-moved, rests-nowhere, rests-ring}
use Rattle.transfer.proofs.overview.cursor_of.Goals as goal

pub returns-then-is_none-clause-cursor : goal.returns-then-is_none-clause-cursor
returns-then-is_none-clause-cursor c = λ x at passed.
    let same = c.choice-entry.ensures x at in
    rests-nothing c.args.rings.now c.args.next (record x { cursor = c.unasked.result })
    (ap (λ (e : Entry). e.action) (sym same) ∙ asked-none _ c.if-is_none.ensures) c.unasked.ensures

pub returns-then-is_none-clause-lost : goal.returns-then-is_none-clause-lost
returns-then-is_none-clause-lost c = λ x at.
    let same = c.choice-entry.ensures x at in
    nothing-asked c.args.session.now (slice_get (c.args.rings.now).rings x.station) x.action x.cursor
    (ap (λ (e : Entry). e.action) (sym same) ∙ asked-none _ c.if-is_none.ensures)

pub returns-in-Some-clause-cursor : goal.returns-in-Some-clause-cursor
returns-in-Some-clause-cursor c = λ x at passed.
    let same = c.choice-entry.ensures x at in
    let asked = asked-some _ c.if-is_none.ensures in
    let action = ap (λ (e : Entry). e.action) (sym same) ∙ asked.1 in
    let there = ap (λ (e : Entry). slice_get (c.args.rings.now).rings e.station) (sym same)
    ∙ sym c.in-Some.ensures.ring in
    rests-ring c.args.rings.now c.args.next
    (record x { cursor = c.cursor_in.result }) c.in-Some.ring.now asked.0 action there
    (rests-moved c.in-Some.ring.now c.args.next x c.cursor_in.result
    (c.cursor_in.ensures x
    (subst (λ m. slice_get (chosen_of m) c.args.i ≡ Some x) (sym c.start_of-start.ensures.mode) at)
    (c.start_of-start.ensures.place x at)
    ((passed.passed c.in-Some.ring.now asked.0 there action).passed)))

pub returns-in-Some-clause-lost : goal.returns-in-Some-clause-lost
returns-in-Some-clause-lost c = λ x at.
    let same = c.choice-entry.ensures x at in
    let asked = asked-some _ c.if-is_none.ensures in
    let action = ap (λ (e : Entry). e.action) (sym same) ∙ asked.1 in
    let there = ap (λ (e : Entry). slice_get (c.args.rings.now).rings e.station) (sym same)
    ∙ sym c.in-Some.ensures.ring in
    c.start_of-start.ensures.lost x at
    ∙ ap (λ (r : Option RingValue). with_lost c.args.session.now (lost_in r (Some asked.0) x.cursor)) (sym there)
    ∙ ap (λ a. with_lost c.args.session.now (lost_in (slice_get (c.args.rings.now).rings x.station) a x.cursor))
    (sym action)

pub returns-in-None-clause-cursor : goal.returns-in-None-clause-cursor
returns-in-None-clause-cursor c = λ x at passed.
    let same = c.choice-entry.ensures x at in
    rests-nowhere c.args.rings.now c.args.next (record x { cursor = c.unasked-in-None.result })
    (ap (λ (e : Entry). slice_get (c.args.rings.now).rings e.station) (sym same)
    ∙ sym c.in-None.ensures.ring) c.unasked-in-None.ensures

pub returns-in-None-clause-lost : goal.returns-in-None-clause-lost
returns-in-None-clause-lost c = λ x at.
    let same = c.choice-entry.ensures x at in
    nowhere-lost c.args.session.now (slice_get (c.args.rings.now).rings x.station) x.action x.cursor
    (ap (λ (e : Entry). slice_get (c.args.rings.now).rings e.station) (sym same) ∙ sym c.in-None.ensures.ring)
