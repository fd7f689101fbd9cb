use Rattle.std.proofs.Common.{◌∙◌, Ok, ap, is_ok, sym}
use Rattle.event_loop.proofs.WriteLemmas.{not-set, spared-found}
use Rattle.event_loop.proofs.passes.finds_nothing.Goals as goal

pub returns-in-Ok-clause-idle : goal.returns-in-Ok-clause-idle
returns-in-Ok-clause-idle c = λ unmarked config w stands.
    let says = c.marked.ensures.open config w stands in
    spared-found config w c.args.client.now
    (c.marked.ensures.spared (c.in-Ok.is ∙ ap Ok (not-set c.in-Ok.marked unmarked)) config w stands)
    (sym says ∙ ap (λ r. is_ok r) c.in-Ok.is)

pub returns-in-Ok-clause-nothing : goal.returns-in-Ok-clause-nothing
returns-in-Ok-clause-nothing c = λ unmarked config w stands.
    let spared = c.marked.ensures.spared (c.in-Ok.is ∙ ap Ok (not-set c.in-Ok.marked unmarked)) config w stands in
    spared.nothing
