use Rattle.std.proofs.Common.{sym, ◌∙◌}
use Rattle.session_state.proofs.SettleLemmas.{reads-then, settles, settles-kept, read_on-nothing, read_on-stopped}
use Rattle.session_state.proofs.SettleLemmas.{news-nothing, news-stopped, settles-news}
use Rattle.session_state.proofs.session.Session.settle.Goals.{then-loop-self-test+else-is_reading, else-loop-self-test}
use Rattle.session_state.proofs.session.Session.settle.Goals as goal

pub read_line-requires-clause-reads : goal.read_line-requires-clause-reads
read_line-requires-clause-reads c = λ h. c.is_reading.ensures.may c.if-is_reading.true c.args.config.now h

pub loop-self-preserved : goal.loop-self-preserved
loop-self-preserved c =
    reads-then c.args.config.now c.read_line.new.self c.loop-self.self c.args.self.now c.read_line.ensures.reads
    c.loop-self.invariant

pub returns-clause-client : goal.returns-clause-client
returns-clause-client c = λ h.
    settles c.args.config.now h c.loop-self.self c.drop_if_ending.new.self c.args.self.now c.settled.result
    c.settled.ensures.start c.settled.ensures.rest c.drop_if_ending.ensures
    (λ apart. elim c.loop-self-test.branch [
      | then-loop-self-test+else-is_reading w ↦
          read_on-stopped c.args.config.now _ h c.loop-self.self
          (w.is_reading.ensures.may_not w.if-is_reading.false apart c.args.config.now h)
      | else-loop-self-test w ↦ read_on-nothing c.args.config.now _ h c.loop-self.self
          (sym c.has_unread.ensures ∙ w.loop-self-test.false)
    ])
    c.loop-self.invariant

pub returns-clause-kept : goal.returns-clause-kept
returns-clause-kept c =
    settles-kept c.args.config.now c.loop-self.self c.drop_if_ending.new.self c.args.self.now c.drop_if_ending.ensures
    c.loop-self.invariant

pub returns-clause-news : goal.returns-clause-news
returns-clause-news c = λ h.
    settles-news c.args.config.now h c.loop-self.self c.drop_if_ending.new.self c.args.self.now
    c.drop_if_ending.ensures
    (λ apart. elim c.loop-self-test.branch [
      | then-loop-self-test+else-is_reading w ↦
          news-stopped c.args.config.now h c.loop-self.self
          (w.is_reading.ensures.may_not w.if-is_reading.false apart c.args.config.now h)
      | else-loop-self-test w ↦ news-nothing c.args.config.now h c.loop-self.self
          (sym c.has_unread.ensures ∙ w.loop-self-test.false)
    ])
    c.loop-self.invariant
