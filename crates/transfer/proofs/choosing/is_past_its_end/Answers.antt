use Rattle.std.proofs.Common.{◌∙◌, Some, Option, ap, sym, slice_get}
use Rattle.sl_lines.specs.declared.actions.Action.TheVariants.{Time}
use Rattle.session_state.specs.declared.choices.Entry.{Entry}
use Rattle.std.specs.List.{list_any}
use Rattle.protocol.specs.History.{holds_after}
use Rattle.station_ring.specs.Rings.{RingValue}
use Rattle.catalog.specs.Places.{station_at}
use Rattle.station_ring.proofs.RingsLemmas.{ring_is, station_is_nowhere}
use Rattle.station_ring.proofs.HistoryLemmas.{holds_after-ring, holds_after-nowhere}
use Rattle.transfer.specs.Cursors.{is_after_end}
use Rattle.transfer.specs.Sleeping.{starts_after}
use Rattle.transfer.proofs.choosing.is_past_its_end.Goals as goal

pub returns-in-Some-clause-history : goal.returns-in-Some-clause-history
returns-in-Some-clause-history c = λ x same next begin last asked rests reached config h holds.
    let place = ap (λ (e : Entry). slice_get (c.args.rings.now).rings e.station) same in
    let there = place ∙ sym c.in-Some.ensures.ring in
    c.has_passed_its_end.ensures x same next (rests.rests c.in-Some.ring.now _ there asked).passed
    (reached.reached c.in-Some.ring.now _ there asked)
    ∙ ap (λ a. list_any (is_after_end a) c.in-Some.ring.now.held) asked
    ∙ ap (λ (r : RingValue). list_any (is_after_end (Some (Time begin (Some last)))) r.held)
    (ring_is config h x.station c.args.rings.now c.in-Some.ring.now holds (sym there))
    ∙ sym (holds_after-ring (station_at config.entries x.station) last h)

pub returns-in-None-clause-history : goal.returns-in-None-clause-history
returns-in-None-clause-history c = λ x same next begin last asked rests reached config h holds.
    holds_after-nowhere h last
    ∙ ap (λ s. holds_after s last h)
    (sym
    (station_is_nowhere config h x.station c.args.rings.now holds
    (c.in-None.ensures.ring ∙ sym (ap (λ (e : Entry). slice_get (c.args.rings.now).rings e.station) same))))

pub returns-in-Some-clause-ring : goal.returns-in-Some-clause-ring
returns-in-Some-clause-ring c = λ x same next begin last asked rests reached.
    let place = ap (λ (e : Entry). slice_get (c.args.rings.now).rings e.station) same in
    let there = place ∙ sym c.in-Some.ensures.ring in
    c.has_passed_its_end.ensures x same next (rests.rests c.in-Some.ring.now _ there asked).passed
    (reached.reached c.in-Some.ring.now _ there asked)
    ∙ ap (λ a. list_any (is_after_end a) c.in-Some.ring.now.held) asked
    ∙ ap (λ (o : Option RingValue). starts_after o begin last) (sym there)

pub returns-in-None-clause-ring : goal.returns-in-None-clause-ring
returns-in-None-clause-ring c = λ x same next begin last asked rests reached.
    ap (λ (o : Option RingValue). starts_after o begin last)
    (c.in-None.ensures.ring ∙ sym (ap (λ (e : Entry). slice_get (c.args.rings.now).rings e.station) same))
