use Rattle.std.proofs.Common.{sym, ◌∙◌}
use Rattle.transfer.proofs.FilterLemmas.{sight-known}
use Rattle.transfer.proofs.filters.Filter.sight.Goals as goal

pub returns-then-is_refused : goal.returns-then-is_refused
returns-then-is_refused c = λ streams x y is tells.
    sight-known c.args.self.now streams x c.args.brief.now y c.is_refused.result is tells
    (sym c.is_late.ensures ∙ c.if-is_late.false) c.is_refused.ensures.some c.is_refused.ensures.none
    c.if-is_refused.true
