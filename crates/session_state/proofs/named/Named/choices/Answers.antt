use Rattle.std.proofs.Common.{◌∙◌}
use Rattle.session_state.proofs.NamedLemmas.{naming-entries}
use Rattle.session_state.proofs.named.Named.choices.Goals as goal

pub returns : goal.returns
returns c =
    c.as_slice.ensures.value
    ∙ naming-entries c.self.inside.entries.items c.self.inside.current c.self.inside.pool c.args.self.now
    c.self.view_is
