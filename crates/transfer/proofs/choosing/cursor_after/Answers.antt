use Rattle.std.proofs.Common.{◌≡◌, ℕ, ◌+◌, ◌≤◌, Some, arith, refl, sym, subst}
use Rattle.station_ring.specs.Rings.{held_at}
use Rattle.station_ring.proofs.GrowthLemmas.{held_at-low}
use Rattle.transfer.specs.Cursors.{RestsAt}
use Rattle.transfer.specs.declared.wanting.Found.TheVariants.{Wanted}
use Rattle.transfer.proofs.CursorLemmas.{held_at-high, rests-end, rests-wanted}
use Rattle.transfer.proofs.SentLemmas.{none-past, wanted-found}
use Rattle.transfer.proofs.choosing.cursor_after.Goals as goal

pub overflow_add-place : goal.overflow_add-place
overflow_add-place c =
    let high = held_at-high c.args.found.ring.now c.args.found.place c.args.found.held.now c.holds_its_last.ensures
    c.requires.there in
    omega (arith, high)

pub returns-in-None : goal.returns-in-None
returns-in-None c = λ x at passing passed.
    let same = c.choice-entry.ensures x at in
    let past : c.args.found.ring.now.pushes ≤ c.args.found.place + 1 =
    none-past c.args.found.ring.now c.args.found.place c.args.found.held.now c.requires.there (sym c.in-None.ensures) in
    subst (RestsAt c.args.found.ring.now c.args.next x) (sym (rw same at c.at_end.ensures))
    (rests-end c.args.found.ring.now c.args.next x (c.args.found.place + 1) x.cursor.ended c.holds_its_last.ensures past
    passed)

pub returns-in-Some : goal.returns-in-Some
returns-in-Some c = λ x at passing passed.
    let same = c.choice-entry.ensures x at in
    let ring = c.args.found.ring.now in
    let place : ℕ = c.args.found.place + 1 in
    let held = c.in-Some.held.now in
    let there : held_at ring place ≡ Some held = sym c.in-Some.ensures in
    let high = held_at-high ring place held c.holds_its_last.ensures there in
    let low = held_at-low ring place held there in
    let wanted = c.wants_too.ensures x (sym same) passing c.if-wants_too.true in
    subst (RestsAt ring c.args.next x) (sym (rw same at c.at_record.ensures))
    (rests-wanted ring c.args.next x place x.cursor.ended held.stamp (Wanted held.stamp) c.holds_its_last.ensures
    (omega (arith, low.0)) high (wanted-found ring place x c.args.next held there wanted) refl passed)
