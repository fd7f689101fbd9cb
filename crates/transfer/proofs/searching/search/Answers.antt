use Rattle.std.proofs.Common.{◌+◌, ◌≤◌, ◌++◌, length, arith, sym, subst, length-append}
use Rattle.transfer.specs.Cursors.{RestsAt}
use Rattle.transfer.proofs.CursorLemmas.{rests-end}
use Rattle.transfer.proofs.RefusedLemmas.{rests-refused}
use Rattle.transfer.proofs.SearchLemmas.{tell-older, tell-newer}
use Rattle.transfer.proofs.searching.search.Goals as goal

pub overflow_add-reached : goal.overflow_add-reached
overflow_add-reached c =
    let briefs = c.briefs_from-briefs.result in
    let both = length-append briefs.older.now briefs.newer.now in
    omega (arith, both, c.briefs_from-briefs.ensures.count, c.pushes-end.ensures)

pub returns-then-refuses_all : goal.returns-then-refuses_all
returns-then-refuses_all c = λ x at passed.
    let briefs = c.briefs_from-briefs.result in
    subst (RestsAt c.args.ring.now c.args.next x) (sym c.at_end.ensures)
    (rests-refused c.args.ring.now c.args.next x c.args.from.place briefs.streams.now
    (briefs.older.now ++ briefs.newer.now) c.briefs_from-briefs.ensures
    (c.refuses_all.ensures.all x at (c.of-filter.ensures briefs.streams.now x (sym (c.choice.ensures x at)))
    c.if-refuses_all.true) c.args.from.ended c.holds_its_last.ensures c.requires.high passed)

pub returns-in-Found : goal.returns-in-Found
returns-in-Found c = λ x at passed.
    let briefs = c.briefs_from-briefs.result in
    let older = tell-older c.args.ring.now c.args.from.place briefs.streams.now briefs.older.now briefs.newer.now
    c.briefs_from-briefs.ensures in
    c.in-Found.ensures.passed briefs.streams.now x at older
    (c.refuses_all.ensures.filter x at (c.of-filter.ensures briefs.streams.now x (sym (c.choice.ensures x at)))) passed

pub returns-in-Found-pass_briefs : goal.returns-in-Found-pass_briefs
returns-in-Found-pass_briefs c = λ x at passed.
    let briefs = c.briefs_from-briefs.result in
    let older = tell-older c.args.ring.now c.args.from.place briefs.streams.now briefs.older.now briefs.newer.now
    c.briefs_from-briefs.ensures in
    let newer = tell-newer c.args.ring.now c.args.from.place briefs.streams.now briefs.older.now briefs.newer.now
    c.briefs_from-briefs.ensures in
    let filter = c.refuses_all.ensures.filter x at (c.of-filter.ensures briefs.streams.now x
    (sym (c.choice.ensures x at))) in
    c.in-Found-pass_briefs.ensures.passed briefs.streams.now x at newer
    (c.pass_briefs.ensures.filter briefs.streams.now x at older filter)
    (c.in-All.ensures.passed briefs.streams.now x at older filter passed)

pub returns-in-All-pass_briefs : goal.returns-in-All-pass_briefs
returns-in-All-pass_briefs c = λ x at passed.
    let briefs = c.briefs_from-briefs.result in
    let older = tell-older c.args.ring.now c.args.from.place briefs.streams.now briefs.older.now briefs.newer.now
    c.briefs_from-briefs.ensures in
    let newer = tell-newer c.args.ring.now c.args.from.place briefs.streams.now briefs.older.now briefs.newer.now
    c.briefs_from-briefs.ensures in
    let filter = c.refuses_all.ensures.filter x at (c.of-filter.ensures briefs.streams.now x
    (sym (c.choice.ensures x at))) in
    let both = length-append briefs.older.now briefs.newer.now in
    let all : c.args.ring.now.pushes ≤ c.args.from.place + length briefs.older.now + length briefs.newer.now =
    omega (arith, both, c.briefs_from-briefs.ensures.count) in
    subst (RestsAt c.args.ring.now c.args.next x) (sym c.at_end-in-All-pass_briefs.ensures)
    (rests-end c.args.ring.now c.args.next x
    (c.args.from.place + length briefs.older.now + length briefs.newer.now) c.in-All-pass_briefs.ended
    c.holds_its_last.ensures all
    (c.in-All-pass_briefs.ensures.passed briefs.streams.now x at newer
    (c.pass_briefs.ensures.filter briefs.streams.now x at older filter)
    (c.in-All.ensures.passed briefs.streams.now x at older filter passed)))
