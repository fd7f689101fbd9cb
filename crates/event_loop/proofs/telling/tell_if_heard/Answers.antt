use Rattle.std.proofs.Common.{◌∙◌, refl, sym}
use Rattle.event_loop.specs.Telling.TellsNews.{all, nothing}
use Rattle.event_loop.proofs.telling.tell_if_heard.Goals as goal

pub returns-then-listens-clause-decides : goal.returns-then-listens-clause-decides
returns-then-listens-clause-decides g c =
    all (sym c.listens.ensures ∙ c.if-listens.true) c.tell_news.ensures.decides c.tell_news.ensures.taken

pub returns-else-listens-clause-decides : goal.returns-else-listens-clause-decides
returns-else-listens-clause-decides g c = nothing (sym c.listens.ensures ∙ c.if-listens.false) refl refl
