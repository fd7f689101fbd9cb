use Rattle.std.proofs.Common.{◌∙◌, ◌≤◌, ap, sym, subst, length}
use Rattle.session_state.specs.NamedValues.{NamedValue}
use Rattle.session_state.proofs.EntryLemmas.{indexed-none, tells-none}
use Rattle.session_state.proofs.NamedLemmas.{naming-none, with-length}
use Rattle.session_state.proofs.OrderChangeLemmas.{order-none}
use Rattle.session_state.proofs.named.Named.forget.Goals as goal

pub invariant_of-self : goal.invariant_of-self
invariant_of-self c = (
  naming-none c.self.inside.entries.items _ c.self.inside.current c.self.inside.pool _ _ _ c.self.invariant.0
      (sym (with-length c.self.inside.entries.items c.self.inside.pool)
      ∙ ap (λ (x : NamedValue). length x.choices) c.self.view_is
      ∙ c.requires) c.clear-2.ensures.items c.clear.ensures c.clear-2.ensures.capacity,
  indexed-none c.clear-2.new.self.items c.self.inside.indexes.items c.clear-2.ensures.items,
  tells-none c.clear-2.new.self.items c.clear-2.ensures.items,
  order-none c.clear-3.new.self.items _ c.clear-3.ensures.items (ap length c.clear-2.ensures.items),
  tt,
  subst (λ n. 255 ≤ n) (sym c.clear-3.ensures.capacity) c.self.invariant.5,
)
