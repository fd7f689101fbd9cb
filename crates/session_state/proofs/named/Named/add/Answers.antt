use Rattle.std.proofs.Common.{◌≡◌, ◌≢◌, ◌≤◌, ◌+◌, ◌∙◌, ◌++◌, ◌∷◌, [], ℕ, List, None, Some, ap, arith, length, refl}
use Rattle.std.proofs.Common.{slice_get, subst, sym}
use Rattle.std.proofs.lemmas.List.{length_push}
use Rattle.catalog.specs.Places.{station_at}
use Rattle.selector.specs.Pools.{list_at}
use Rattle.session_state.specs.declared.choices.Entry.{Entry}
use Rattle.session_state.specs.Entries.{IsIndexed, TellsAhead}
use Rattle.session_state.specs.NamedValues.{NamedValue, begun, choice_of}
use Rattle.session_state.specs.Orders.{HasSorted, IsOrder}
use Rattle.session_state.proofs.ChoiceLemmas.{anew, full}
use Rattle.session_state.proofs.EntryLemmas.{indexed-push, tells-push}
use Rattle.session_state.proofs.NamedLemmas.{station-there}
use Rattle.session_state.proofs.OrderChangeLemmas.{order-push, sorted-push}
use Rattle.session_state.proofs.named.Named.add.Goals as goal

pub returns-then-i-ge-CAPACITY : goal.returns-then-i-ge-CAPACITY
returns-then-i-ge-CAPACITY c =
    λ config. full config (station_at config.entries c.args.place) c.self.inside.entries.items c.self.inside.pool
    c.args.self.now (ap (λ (x : NamedValue). x.choices) c.self.view_is)
    (omega (arith, c.len-i.ensures, c.self.inside.entries.ok.0, c.if-i-ge-CAPACITY.true))

pub invariant_of-self-2 : goal.invariant_of-self-2
invariant_of-self-2 c =
    let es = c.self.inside.entries.items in
    let f : Entry = begun c.args.place None in
    let is = c.self.invariant.0 in
    let count : c.len-i.result ≡ length es = c.len-i.ensures ∙ c.self.inside.entries.ok.0 in
    let more : length c.put.new.entries.items ≡ length es + 1 = ap length c.put.ensures.items ∙ length_push es f in
    let free = c.if-i-ge-CAPACITY.false in
    let room = c.put.ensures.capacity in
    let order = c.self.inside.order.items in
    let another : (i : ℕ) (e : Entry) → slice_get es i ≡ Some e → e.station ≢ c.args.place = λ i e at.
    c.requires i (choice_of e (list_at c.self.inside.pool i))
    (ap (λ (x : NamedValue). slice_get x.choices i) (sym c.self.view_is)
    ∙ station-there es c.self.inside.pool i e at) in
    let indexed : IsIndexed (es ++ f ∷ []) c.set_index.new.indexes.items =
    subst (IsIndexed (es ++ f ∷ [])) (sym c.set_index.ensures)
    (indexed-push es c.self.inside.indexes.items f c.len-i.result c.self.invariant.1 another count) in (
      record {
        count = is.count;
        few = omega (arith, more, count, free);
        spare = omega (arith, room, is.spare);
        within = omega (arith, more, count);
        rest = λ k h. is.rest k (omega (arith, more, h));
      },
      subst (λ (l : List Entry). IsIndexed l c.set_index.new.indexes.items) (sym c.put.ensures.items) indexed,
      subst (λ (l : List Entry). TellsAhead c.self.inside.ahead l) (sym c.put.ensures.items)
          (tells-push c.self.inside.ahead es f c.self.invariant.2 refl),
      subst (λ l. IsOrder l (length c.put.new.entries.items)) (sym c.push_reserved.ensures.items)
          (subst (IsOrder (order ++ c.len-i.result ∷ [])) (sym more)
          (subst (λ n. IsOrder (order ++ n ∷ []) (length es + 1)) (sym count)
          (order-push (length es) order c.self.invariant.3))),
      subst (λ l. HasSorted c.self.inside.ahead l c.put.new.entries.items) (sym c.push_reserved.ensures.items)
          (subst (λ (l : List Entry). HasSorted c.self.inside.ahead (order ++ c.len-i.result ∷ []) l)
          (sym c.put.ensures.items)
          (subst (λ n. HasSorted c.self.inside.ahead (order ++ n ∷ []) (es ++ f ∷ [])) (sym count)
          (sorted-push c.self.inside.ahead (length es) es f order c.self.invariant.3 refl c.self.invariant.4 refl))),
      subst (λ n. 255 ≤ n) (sym c.push_reserved.ensures.capacity) c.self.invariant.5,
    )

pub returns : goal.returns
returns c =
    λ config. anew config c.args.place c.len-i.result c.self.inside.entries.items _ c.self.inside.pool c.args.self.now
    (ap (λ (x : NamedValue). x.choices) c.self.view_is)
    (c.self.invariant.0.rest (length c.self.inside.entries.items) (omega arith))
    (c.len-i.ensures ∙ c.self.inside.entries.ok.0) (omega (arith, c.if-i-ge-CAPACITY.false)) c.put.ensures.items
