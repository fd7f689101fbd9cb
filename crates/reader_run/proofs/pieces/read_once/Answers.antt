-- A round: what was listed before it goes on.
use Rattle.std.proofs.Common.{sym, ap, ◌∙◌, Err}
use Rattle.std.proofs.lemmas.Result.{err_from_is_err_and}
use Rattle.slreader.specs.Dialogue.{ReaderValue}
use Rattle.reader_run.proofs.RoundLaws.{exchange-order, exchange-plan, exchange-round, exchange-state}
use Rattle.reader_run.proofs.RoundLaws.{exchange-stopped, taken-on, taken-order, taken-over, taking-order}
use Rattle.reader_run.proofs.RoundLaws.{taking-round}
use Rattle.reader_run.proofs.pieces.read_once.Goals as goal

pub take_block-requires-clause-plan : goal.take_block-requires-clause-plan
take_block-requires-clause-plan g c =
    λ e. c.requires.plan (sym (ap (λ (x : ReaderValue). x.stage) c.in_ok-count.ensures.sent.reader) ∙ e)

pub returns-in_err-count-clause-round : goal.returns-in_err-count-clause-round
returns-in_err-count-clause-round g c =
    let p = err_from_is_err_and c.from_residual.result c.from_residual.ensures.1 in
    rw (p.1 ∙ ap Err p.2) (exchange-round c.in_err-count.field-0.0 _ _ _ _ _ _ _ _ _ _ _ _ _
    c.in_err-count.ensures.stopped)

pub returns-in_err-count-clause-order : goal.returns-in_err-count-clause-order
returns-in_err-count-clause-order g c =
    exchange-order c.in_err-count.field-0.0 _ _ _ _ _ _ _ _ _ _ _ _ _ c.in_err-count.ensures.stopped

pub returns-in_err-count-clause-plan : goal.returns-in_err-count-clause-plan
returns-in_err-count-clause-plan g c =
    let p = err_from_is_err_and c.from_residual.result c.from_residual.ensures.1 in
    rw (p.1 ∙ ap Err p.2) (exchange-plan c.in_err-count.field-0.0 _ _ _ _ _ _ _ _ _ _ c.in_err-count.ensures.stopped)

pub returns-in_err-count-clause-state : goal.returns-in_err-count-clause-state
returns-in_err-count-clause-state g c =
    let p = err_from_is_err_and c.from_residual.result c.from_residual.ensures.1 in
    rw (p.1 ∙ ap Err p.2) (exchange-state c.in_err-count.field-0.0 _ _ _ _ _ _ _ _ _ _ c.in_err-count.ensures.stopped)

pub returns-in_err-count-clause-stopped : goal.returns-in_err-count-clause-stopped
returns-in_err-count-clause-stopped g c =
    let p = err_from_is_err_and c.from_residual.result c.from_residual.ensures.1 in
    rw (p.1 ∙ ap Err p.2) (exchange-stopped c.in_err-count.field-0.0 _ _ _ _ _ _ _ _ _ _ _ _
    c.in_err-count.ensures.stopped)

pub returns-in-Ok-clause-round : goal.returns-in-Ok-clause-round
returns-in-Ok-clause-round g c =
    taken-over _ _ _ _ _ _ _ _ _ _ _ _ _ _ _ _ _ c.in_ok-count.ensures.sent c.in_ok-count.ensures.consumed
    c.if-is_over.true c.in_ok-is_over.ensures.taken c.in-Ok.ensures.written c.in-Ok.ensures.sent

pub returns-in-Ok-clause-order : goal.returns-in-Ok-clause-order
returns-in-Ok-clause-order g c =
    taken-order _ _ _ c.send.new.core _ _ _ _ _ _ (g.W.Sink.written c.send.new.writer) _ _ _ _ _ _
    c.in_ok-count.ensures.sent
    c.in_ok-count.ensures.consumed c.in_ok-is_over.ensures.taken

pub returns-in-Err-clause-order : goal.returns-in-Err-clause-order
returns-in-Err-clause-order g c =
    taken-order _ _ _ c.send.new.core _ _ _ _ _ _ (g.W.Sink.written c.send.new.writer) _ _ _ _ _ _
    c.in_ok-count.ensures.sent
    c.in_ok-count.ensures.consumed c.in_ok-is_over.ensures.taken

pub returns-else-is_over-clause-round : goal.returns-else-is_over-clause-round
returns-else-is_over-clause-round g c =
    taken-on _ _ _ _ _ _ _ _ _ _ _ _ _ _ _ c.in_ok-count.ensures.sent c.in_ok-count.ensures.consumed
    c.if-is_over.false c.in_ok-is_over.ensures.taken

pub returns-else-is_over-clause-order : goal.returns-else-is_over-clause-order
returns-else-is_over-clause-order g c =
    taken-order _ _ _ c.take_block.new.core _ _ _ _ _ _ (g.W.Sink.written c.exchange.new.writer) _ _ _ _ _ _
    c.in_ok-count.ensures.sent c.in_ok-count.ensures.consumed c.in_ok-is_over.ensures.taken

pub returns-in_err-is_over-clause-round : goal.returns-in_err-is_over-clause-round
returns-in_err-is_over-clause-round g c =
    let p = err_from_is_err_and c.from_residual-in_err-is_over.result c.from_residual-in_err-is_over.ensures.1 in
    rw (p.1 ∙ ap Err p.2) (taking-round c.in_err-is_over.field-0.0 _ _ _ _ _ _ _ _ _ _ _ _ _ _ _ _
    c.in_ok-count.ensures.sent
    c.in_ok-count.ensures.consumed c.in_err-is_over.ensures.stopped)

pub returns-in_err-is_over-clause-order : goal.returns-in_err-is_over-clause-order
returns-in_err-is_over-clause-order g c =
    taking-order c.in_err-is_over.field-0.0 _ _ _ _ _ _ _ _ _ _ _ _ _ _ _ _ c.in_ok-count.ensures.sent
    c.in_ok-count.ensures.consumed c.in_err-is_over.ensures.stopped
