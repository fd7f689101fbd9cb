use Rattle.std.proofs.Common.{◌≡◌, ◌∙◌, Some, None, ap, sym, slice_get}
use Rattle.station_ring.specs.declared.held.Held.{Held}
use Rattle.station_ring.specs.Rings.{held_at}
use Rattle.session_state.specs.declared.choices.Entry.{Entry}
use Rattle.session_state.specs.Choices.{chosen_of}
use Rattle.transfer.proofs.EntryLemmas.{item-is}
use Rattle.transfer.proofs.FirstsLemmas.{ahead-ring, ahead-within, told-ahead}
use Rattle.transfer.proofs.ScanLemmas.{held-below}
use Rattle.transfer.proofs.choosing.candidate.Goals as goal

pub returns-in_err-ring-clause-position : goal.returns-in_err-ring-clause-position
returns-in_err-ring-clause-position c = λ next rests.
    let cs = chosen_of c.args.session.now.mode in
    let x = c.requires.choice in
    let same = c.choice-entry.ensures x c.requires.at in
    let ahead = told-ahead c.args.rings.now cs c.args.first.index c.args.first.stamp next x rests c.requires
    (item-is cs _ x c.requires.at) in
    absurd (let t : None ≡ Some ahead.ring = c.in_err-ring.ensures.ring
    ∙ ap (λ (e : Entry). slice_get (c.args.rings.now).rings e.station) same ∙ ahead.there in cc)

pub returns-in_err-held-clause-position : goal.returns-in_err-held-clause-position
returns-in_err-held-clause-position c = λ next rests.
    let cs = chosen_of c.args.session.now.mode in
    let x = c.requires.choice in
    let same = c.choice-entry.ensures x c.requires.at in
    let ahead = told-ahead c.args.rings.now cs c.args.first.index c.args.first.stamp next x rests c.requires
    (item-is cs _ x c.requires.at) in
    let there = ahead-ring c.args.rings.now next x c.args.first.stamp c.in_ok-ring.ring.now ahead
    (c.in_ok-ring.ensures.ring ∙ ap (λ (e : Entry). slice_get (c.args.rings.now).rings e.station) same) in
    absurd (let t : None ≡ Some (there.0) = c.in_err-held.ensures
    ∙ ap (λ (e : Entry). held_at c.in_ok-ring.ring.now e.cursor.ring_place) same ∙ there.1 in cc)

pub returns-clause-index : goal.returns-clause-index
returns-clause-index c = ahead-within _ c.args.first.index c.args.first.stamp c.requires

pub returns-clause-held : goal.returns-clause-held
returns-clause-held c =
    record {
      station = _;
      ring_there = sym c.in_ok-ring.ensures.ring;
      there = sym c.in_ok-held.ensures;
      before = held-below c.in_ok-ring.ring.now _ c.in_ok-held.held.now c.args.rings.now.arrivals
          (sym c.in_ok-held.ensures) c.in_ok-ring.ensures.behind.stamps;
    }

pub returns-clause-position : goal.returns-clause-position
returns-clause-position c = λ next rests.
    let cs = chosen_of c.args.session.now.mode in
    let x = c.requires.choice in
    let entry = c.choice-entry.ensures x c.requires.at in
    let ahead = told-ahead c.args.rings.now cs c.args.first.index c.args.first.stamp next x rests c.requires
    (item-is cs _ x c.requires.at) in
    let there = ahead-ring c.args.rings.now next x c.args.first.stamp c.in_ok-ring.ring.now ahead
    (c.in_ok-ring.ensures.ring ∙ ap (λ (e : Entry). slice_get (c.args.rings.now).rings e.station) entry) in
    let same : c.in_ok-held.held.now
    ≡ there.0 = (let t : Some c.in_ok-held.held.now ≡ Some (there.0) = c.in_ok-held.ensures
    ∙ ap (λ (e : Entry). held_at c.in_ok-ring.ring.now e.cursor.ring_place) entry ∙ there.1 in cc) in
    ap (λ (y : Held). Some y.stamp) same ∙ ap (λ n. Some n) there.2
