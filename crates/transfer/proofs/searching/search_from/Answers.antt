use Rattle.std.proofs.Common.{◌≤◌, ◌<◌, arith, sym, subst}
use Rattle.transfer.specs.Cursors.{RestsAt}
use Rattle.transfer.proofs.CursorLemmas.{passed-after, passed-unwanted, rests-end, rests-wanted}
use Rattle.transfer.proofs.searching.search_from.Goals as goal

pub returns-then-place-pushes : goal.returns-then-place-pushes
returns-then-place-pushes c = λ x at passed.
    let past : c.args.ring.now.pushes ≤ c.args.from.place = omega arith in
    subst (RestsAt c.args.ring.now c.args.next x) (sym c.at_end.ensures)
    (rests-end c.args.ring.now c.args.next x c.args.from.place c.args.from.ended c.holds_its_last.ensures past passed)

pub returns-in-Wanted : goal.returns-in-Wanted
returns-in-Wanted c = λ x at passed.
    let high : c.args.from.place < c.args.ring.now.pushes = omega arith in
    subst (RestsAt c.args.ring.now c.args.next x) (sym c.at_record.ensures)
    (rests-wanted c.args.ring.now c.args.next x c.args.from.place c.args.from.ended c.in-Wanted.stamp c.found_at.result
    c.holds_its_last.ensures c.requires.low high (λ y. c.found_at.ensures x y at (sym (c.choice.ensures x at)))
    c.in-Wanted.is passed)

pub returns-in-AfterEnd : goal.returns-in-AfterEnd
returns-in-AfterEnd c = λ x at passed.
    let high : c.args.from.place < c.args.ring.now.pushes = omega arith in
    c.search.ensures x at
    (passed-after c.args.ring.now c.args.next x c.args.from.place c.args.from.ended c.found_at.result high
    (λ y. c.found_at.ensures x y at (sym (c.choice.ensures x at))) c.in-AfterEnd.is passed)

pub returns-in-Unwanted : goal.returns-in-Unwanted
returns-in-Unwanted c = λ x at passed.
    let high : c.args.from.place < c.args.ring.now.pushes = omega arith in
    c.search-in-Unwanted.ensures x at
    (passed-unwanted c.args.ring.now c.args.next x c.args.from.place c.args.from.ended c.found_at.result high
    (λ y. c.found_at.ensures x y at (sym (c.choice.ensures x at))) c.in-Unwanted.is passed)
