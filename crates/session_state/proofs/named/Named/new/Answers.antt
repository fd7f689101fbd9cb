use Rattle.std.proofs.Common.{rules, ◌≡◌, ◌≤◌, ◌∙◌, ◌++◌, ◌∷◌, [], List, None, ap, arith, length, refl, subst, sym}
use Rattle.std.specs.Vec.{vec_capacity}
use Rattle.session_state.specs.declared.choices.Ahead.TheVariants.{Nobody}
use Rattle.session_state.specs.declared.choices.Entry.{Entry}
use Rattle.session_state.specs.Entries.{IsIndexed, TellsAhead}
use Rattle.session_state.specs.NamedValues.{begun}
use Rattle.session_state.specs.Orders.{IsOrder}
use Rattle.session_state.proofs.EntryLemmas.{indexed-none, indexed-push, tells-none, tells-push}
use Rattle.session_state.proofs.NamedLemmas.{naming-new}
use Rattle.session_state.proofs.OrderChangeLemmas.{order-none, order-push}
use Rattle.session_state.proofs.named.Named.new.Goals as goal

pub invariant_of-result : goal.invariant_of-result
invariant_of-result c =
    let f : Entry = begun 0 None in
    let only : c.put.new.entries.items ≡ f ∷ [] =
    c.put.ensures.items ∙ ap (λ l. l ++ f ∷ []) c.in_ok-entries.ensures.items in
    let spare : vec_capacity c.in_ok-entries.entries ≡ 255 = search rules in
    let roomy : vec_capacity c.in_ok-order.order ≡ 255 = search rules in
    let indexed : IsIndexed (f ∷ []) c.set_index.new.indexes.items =
    subst (IsIndexed (f ∷ [])) (sym c.set_index.ensures)
    (indexed-push [] c.resize.new.self.items f 0 (indexed-none [] c.resize.new.self.items refl)
    (λ i e at. absurd cc) refl) in (
      naming-new c.put.new.entries.items c.in_ok-pool.pool (vec_capacity c.put.new.entries) f only c.in_ok-pool.ensures
          (c.put.ensures.capacity ∙ spare),
      subst (λ (l : List Entry). IsIndexed l c.set_index.new.indexes.items) (sym only) indexed,
      subst (TellsAhead Nobody) (sym only) (tells-push Nobody [] f (tells-none [] refl) refl),
      subst (λ l. IsOrder l (length c.put.new.entries.items))
          (sym (c.push_reserved.ensures.items ∙ ap (λ l. l ++ 0 ∷ []) c.in_ok-order.ensures.items))
          (subst (λ (l : List Entry). IsOrder (0 ∷ []) (length l)) (sym only)
          (order-push 0 [] (order-none [] 0 refl refl))),
      tt,
      subst (λ n. 255 ≤ n) (sym (c.push_reserved.ensures.capacity ∙ roomy)) (omega arith),
    )
