use Rattle.serving.proofs.StopLemmas.{came-into-force, was-different, was-unchanged, was-unread}
use Rattle.serving.proofs.running.reread.Goals as goal

pub returns-in-Ok-clause-rereads : goal.returns-in-Ok-clause-rereads
returns-in-Ok-clause-rereads g c = λ config w stands.
    let asked = g.B.Between.asked in
    rw c.if-not-due.false (came-into-force config w c.args.server.now c.reload.new.self c.reload.ensures.only
    c.in-Ok-Some.config stands (c.reload.ensures.stands config w stands) (asked c.args.between.now)
    (asked c.configuration.new.self) c.in-Ok.ensures.answer (rw c.in-Ok-Some.field-0-is at c.in-Ok-Some.ensures.call))

pub returns-in-Ok-None-clause-rereads : goal.returns-in-Ok-None-clause-rereads
returns-in-Ok-None-clause-rereads g c = λ config w stands.
    let asked = g.B.Between.asked in
    rw c.if-not-due.false (was-unchanged config w c.args.server.now (asked c.args.between.now)
    (asked c.configuration.new.self) (rw c.in-Ok-None.field-0-is at c.in-Ok-None.ensures.call) stands)

pub returns-in-Err-reload-clause-rereads : goal.returns-in-Err-reload-clause-rereads
returns-in-Err-reload-clause-rereads g c = λ config w stands.
    let asked = g.B.Between.asked in
    rw c.if-not-due.false (was-different config w c.args.server.now c.reload.new.self c.reload.ensures.only
    c.in-Ok-Some.config stands (c.reload.ensures.stands config w stands) (asked c.args.between.now)
    (asked c.refused.new.self) c.in-Err-reload.ensures.answer (asked c.configuration.new.self)
    (rw c.in-Ok-Some.field-0-is at c.in-Ok-Some.ensures.call) c.refused.ensures.call)

pub returns-in-Err-clause-rereads : goal.returns-in-Err-clause-rereads
returns-in-Err-clause-rereads g c = λ config w stands.
    let asked = g.B.Between.asked in
    rw c.if-not-due.false (was-unread config w c.args.server.now (asked c.args.between.now)
    (asked c.configuration.new.self) (asked c.refused-in-Err.new.self) c.in-Err.fault c.in-Err.ensures.call
    c.refused-in-Err.ensures.call stands)
