use Rattle.std.proofs.Common.{◌∙◌, List, subst}
use Rattle.session_state.specs.declared.choices.Entry.{Entry}
use Rattle.session_state.specs.Orders.{IsEarliest}
use Rattle.session_state.proofs.NamedLemmas.{naming-entries}
use Rattle.session_state.proofs.named.Named.earliest.Goals as goal

pub returns : goal.returns
returns c =
    subst (λ (es : List Entry). IsEarliest es c.earliest.result)
    (c.as_slice-2.ensures.value
    ∙ naming-entries c.self.inside.entries.items c.self.inside.current c.self.inside.pool c.args.self.now
    c.self.view_is) c.earliest.ensures
