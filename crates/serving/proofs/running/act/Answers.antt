use Rattle.serving.proofs.StopLemmas.{stops-silent, stops-told}
use Rattle.serving.proofs.running.act.Goals as goal

pub returns-then-due-clause-stops : goal.returns-then-due-clause-stops
returns-then-due-clause-stops g c = λ config w stands.
    let asked = g.B.Between.asked in
    stops-told c.args.timetable.now c.args.done c.due_after-due.result config w c.args.server.now
    c.reread.new.server c.args.kept c.keep-kept.result (asked c.args.between.now) (asked c.due_after-due.new.between)
    (asked c.keep-kept.new.between) (asked c.reread.new.between) c.due_after-due.ensures
    (c.keep-kept.ensures config w stands) c.if-due.true (c.reread.ensures.rereads config w stands)
    (asked c.report.new.self) c.of.result c.report.ensures.call
    c.of.ensures.clients c.of.ensures.feeds c.of.ensures.records c.of.ensures.refused

pub returns-else-due-clause-stops : goal.returns-else-due-clause-stops
returns-else-due-clause-stops g c = λ config w stands.
    let asked = g.B.Between.asked in
    stops-silent c.args.timetable.now c.args.done c.due_after-due.result config w c.args.server.now
    c.reread.new.server c.args.kept c.keep-kept.result (asked c.args.between.now) (asked c.due_after-due.new.between)
    (asked c.keep-kept.new.between) (asked c.reread.new.between) c.due_after-due.ensures
    (c.keep-kept.ensures config w stands) c.if-due.false (c.reread.ensures.rereads config w stands)
