use Rattle.std.proofs.Common.{◌≡◌, ◌+◌, ◌≤◌, ◌<◌, arith, sym, subst}
use Rattle.session_state.specs.declared.choices.Entry.{Entry}
use Rattle.transfer.specs.Cursors.{HasPassed, RestsAt}
use Rattle.transfer.specs.Searches.{at_place}
use Rattle.transfer.proofs.CursorLemmas.{passed-after, passed-raised, passed-unwanted, rests-end, rests-wanted}
use Rattle.transfer.proofs.reaching.cursor_in.Goals as goal

pub returns-then-start-pushes : goal.returns-then-start-pushes
returns-then-start-pushes c = λ x at raised passed.
    let same = c.choice-entry.ensures x at in
    let past : c.args.ring.now.pushes ≤ c.args.start = omega arith in
    subst (RestsAt c.args.ring.now c.args.next x) (sym (rw same at c.at_end.ensures))
    (rests-end c.args.ring.now c.args.next x c.args.start x.cursor.ended c.holds_its_last.ensures past
    (passed-raised c.args.ring.now c.args.next x c.args.start raised passed))

pub returns-in-Wanted : goal.returns-in-Wanted
returns-in-Wanted c = λ x at raised passed.
    let same = c.choice-entry.ensures x at in
    let high : c.args.start < c.args.ring.now.pushes = omega arith in
    subst (RestsAt c.args.ring.now c.args.next x) (sym (rw same at c.at_record.ensures))
    (rests-wanted c.args.ring.now c.args.next x c.args.start x.cursor.ended c.in-Wanted.stamp c.found_at.result
    c.holds_its_last.ensures c.requires.low high (λ y. c.found_at.ensures x y at (sym same)) c.in-Wanted.is
    (passed-raised c.args.ring.now c.args.next x c.args.start raised passed))

pub returns-in-AfterEnd : goal.returns-in-AfterEnd
returns-in-AfterEnd c = λ x at raised passed.
    let same = c.choice-entry.ensures x at in
    let high : c.args.start < c.args.ring.now.pushes = omega arith in
    c.search_from.ensures x at
    (passed-after c.args.ring.now c.args.next x c.args.start x.cursor.ended c.found_at.result high
    (λ y. c.found_at.ensures x y at (sym same)) c.in-AfterEnd.is
    (passed-raised c.args.ring.now c.args.next x c.args.start raised passed))

pub returns-in-Unwanted : goal.returns-in-Unwanted
returns-in-Unwanted c = λ x at raised passed.
    let same = c.choice-entry.ensures x at in
    let high : c.args.start < c.args.ring.now.pushes = omega arith in
    c.search_from-in-Unwanted.ensures x at
    (subst (λ (e : Entry). HasPassed c.args.ring.now c.args.next x (at_place (c.args.start + 1) e.cursor.ended))
    (sym same)
    (passed-unwanted c.args.ring.now c.args.next x c.args.start x.cursor.ended c.found_at.result high
    (λ y. c.found_at.ensures x y at (sym same)) c.in-Unwanted.is
    (passed-raised c.args.ring.now c.args.next x c.args.start raised passed)))
