use Rattle.std.proofs.Common.{List, ◌∙◌, subst}
use Rattle.std.specs.Prelude.{IfSome}
use Rattle.session_state.specs.declared.choices.Entry.{Entry}
use Rattle.session_state.specs.Entries.{IsOnlyAt}
use Rattle.session_state.proofs.NamedLemmas.{naming-entries}
use Rattle.session_state.proofs.named.Named.find.Goals as goal

pub returns : goal.returns
returns c =
    subst (λ (l : List Entry). IfSome c.only_at.result (IsOnlyAt l c.args.place))
    (c.as_slice.ensures.value
    ∙ naming-entries c.self.inside.entries.items c.self.inside.current c.self.inside.pool c.args.self.now
    c.self.view_is) c.only_at.ensures.only
