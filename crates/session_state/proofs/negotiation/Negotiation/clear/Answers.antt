use Rattle.std.proofs.Common.{ap, [], ◌∙◌}
use Rattle.std.specs.Prelude.{None}
use Rattle.protocol.specs.Session.{select}
use Rattle.session_state.specs.NamedValues.{Choice}
use Rattle.session_state.specs.Choices.{negotiated_in}
use Rattle.session_state.proofs.ModeLemmas.{alone-changed, alone-cleared}
use Rattle.session_state.proofs.negotiation.Negotiation.clear.Goals as goal

pub invariant_of-self-else-self : goal.invariant_of-self-else-self
invariant_of-self-else-self c =
    λ e. alone-changed c.self.inside.named _ (λ (x : Choice). record x { patterns = [] })
    (c.self.invariant e) c.clear_at.ensures

pub returns-else-self : goal.returns-else-self
returns-else-self c = λ config.
    alone-cleared config c.self.inside.is_multi c.self.inside.named _ c.if-self.false
    (c.self.invariant c.if-self.false) c.clear_at.ensures
    ∙ ap (λ m. select (negotiated_in config m) None) c.self.view_is
