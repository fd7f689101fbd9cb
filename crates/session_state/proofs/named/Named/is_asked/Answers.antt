use Rattle.std.proofs.Common.{ap, ◌∙◌}
use Rattle.std.specs.Prelude.{is_some}
use Rattle.std.specs.List.{list_any}
use Rattle.session_state.proofs.NamedLemmas.{any-entries}
use Rattle.session_state.proofs.named.Named.is_asked.Goals as goal

pub returns : goal.returns
returns c = c.are_asked.ensures ∙ ap (list_any (λ e. is_some e.action)) c.choices.ensures
    ∙ any-entries c.args.self.now.choices
