use Rattle.session_state.proofs.NamedLemmas.{with-length}
use Rattle.std.proofs.Common.{ap, sym, ◌∙◌, length, subst, ◌<◌}
use Rattle.std.specs.Prelude.{IfSome}
use Rattle.session_state.specs.NamedValues.{NamedValue}
use Rattle.session_state.proofs.named.Named.set_current.Goals as goal

pub invariant_of-self : goal.invariant_of-self
invariant_of-self c = (
  record {
    count = c.self.invariant.0.count;
    few = c.self.invariant.0.few;
    spare = c.self.invariant.0.spare;
    within = subst (λ k. IfSome c.args.current (λ i. i < k))
        (ap (λ (x : NamedValue). length x.choices) (sym c.self.view_is)
        ∙ with-length c.self.inside.entries.items c.self.inside.pool) c.requires;
    rest = c.self.invariant.0.rest;
  },
  c.self.invariant.1,
  c.self.invariant.2,
  c.self.invariant.3,
  c.self.invariant.4,
  c.self.invariant.5,
)
