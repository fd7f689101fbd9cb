use Rattle.std.proofs.Common.{sym, ◌∙◌}
use Rattle.session_state.proofs.NamedLemmas.{not-named}
use Rattle.session_state.proofs.named.Named.name.Goals as goal

pub add-requires : goal.add-requires
add-requires c =
    not-named c.args.config.now c.in-Some.place c.args.self.now.choices (sym c.position_of.ensures ∙ c.in-None.is)
