use Rattle.session_state.specs.NamedValues.{Choice}
use Rattle.session_state.specs.Changes.{all_patterns, widened}
use Rattle.session_state.proofs.ModeLemmas.{alone-changed}
use Rattle.session_state.proofs.negotiation.Negotiation.add.Goals as goal

pub invariant_of-self-else-self : goal.invariant_of-self-else-self
invariant_of-self-else-self c = λ e.
    alone-changed c.self.inside.named _
    (λ (x : Choice). record x {
      patterns =
          widened (all_patterns c.self.inside.named.choices) x.patterns c.args.pattern;
    })
    (c.self.invariant e) c.add_at.ensures.new
