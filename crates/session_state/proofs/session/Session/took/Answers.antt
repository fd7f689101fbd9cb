use Rattle.std.proofs.Common.{sym, ◌∙◌}
use Rattle.session_state.proofs.TookLemmas.{took-news}
use Rattle.session_state.proofs.session.Session.took.Goals as goal

pub returns-then-is_empty-clause-news : goal.returns-then-is_empty-clause-news
returns-then-is_empty-clause-news c = λ h.
    took-news c.args.config.now h c.args.self.now c.skip.new.self c.end_listing.new.self c.settle.new.self c.args.count
    c.skip.ensures (sym c.is_empty.ensures ∙ c.if-is_empty.true) c.end_listing.ensures (c.settle.ensures.news h)
