use Rattle.std.proofs.Common.{◌≡◌, ◌∙◌, ap, sym, length, slice_set, subst}
use Rattle.session_state.specs.declared.choices.Entry.{Entry}
use Rattle.session_state.specs.Entries.{IsIndexed}
use Rattle.session_state.specs.NamedValues.{NamedValue, ahead_of}
use Rattle.session_state.proofs.EntryLemmas.{indexed-only, tells-only}
use Rattle.session_state.proofs.NamedLemmas.{naming-entry, with-length}
use Rattle.session_state.proofs.OrderChangeLemmas.{order-set}
use Rattle.session_state.proofs.named.Named.ask_alone.Goals as goal

pub invariant_of-self : goal.invariant_of-self
invariant_of-self c =
    let es = c.self.inside.entries.items in
    let f : Entry = c.new.result in
    let one : length es ≡ 1 = sym (with-length es c.self.inside.pool)
    ∙ ap (λ (x : NamedValue). length x.choices) c.self.view_is ∙ c.requires in
    let is = naming-entry es c.self.inside.current c.self.inside.pool _ 0 f c.self.invariant.0 in (
      record { count = is.count; few = is.few; spare = is.spare; within = tt; rest = is.rest },
      subst (IsIndexed (slice_set es 0 f))
          (ap (λ k. slice_set c.self.inside.indexes.items k 0) (ap (λ (x : Entry). x.station) c.new.ensures)
          ∙ sym c.set_index.ensures) (indexed-only es c.self.inside.indexes.items f one),
      tells-only es f one (ap (λ (x : Entry). ahead_of x.cursor) c.new.ensures),
      order-set es 0 f c.self.inside.order.items c.self.invariant.3,
      tt,
      c.self.invariant.5,
    )
