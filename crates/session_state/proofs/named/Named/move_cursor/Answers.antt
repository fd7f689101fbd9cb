use Rattle.std.proofs.Common.{◌≡◌, ◌∙◌, ◌<◌, ◌≤◌, List, refl, sym, ap, arith, length, slice_set, subst}
use Rattle.std.specs.Prelude.{is_some}
use Rattle.std.proofs.lemmas.List.{length-set}
use Rattle.session_state.specs.declared.choices.Ahead.{Ahead}
use Rattle.session_state.specs.declared.choices.Entry.{Entry}
use Rattle.session_state.specs.Entries.{TellsAhead}
use Rattle.session_state.specs.NamedValues.{ahead_of}
use Rattle.session_state.specs.Orders.{HasSorted, IsOrder, IsReady}
use Rattle.session_state.proofs.EntryLemmas.{indexed-set, read-at, read-same, tells-pass}
use Rattle.session_state.proofs.NamedLemmas.{below, naming-entry, passed-there}
use Rattle.session_state.proofs.OrderChangeLemmas.{order-set, ready-pass}
use Rattle.session_state.proofs.named.Named.move_cursor.Goals as goal

pub index_mut-requires : goal.index_mut-requires
index_mut-requires c =
    let low = below _ _ _ c.args.i _ c.self.view_is c.requires in
    omega (arith, low, c.self.inside.entries.ok.0)

pub follow-requires : goal.follow-requires
follow-requires c =
    let es = c.self.inside.entries.items in
    let order = c.self.inside.order.items in
    let low = below _ _ _ c.args.i _ c.self.view_is c.requires in
    let f : Entry = record (c.index_mut.result.now) { cursor = c.args.cursor } in
    let is = sym c.as_slice.ensures.value in
    record {
      order = subst (λ (l : List Entry). IsOrder order (length l)) is
          (order-set es c.args.i f order c.self.invariant.3);
      index = subst (λ (l : List Entry). c.args.i < length l) is
          (subst (λ n. c.args.i < n) (sym (length-set es c.args.i f)) low);
      ready = subst (λ (l : List Entry). IsReady c.self.inside.ahead c.args.i l order) is
          (ready-pass c.self.inside.ahead es c.args.i f order c.self.invariant.4 c.self.invariant.2);
    }

pub invariant_of-self : goal.invariant_of-self
invariant_of-self c =
    let es = c.self.inside.entries.items in
    let low = below _ _ _ c.args.i _ c.self.view_is c.requires in
    let e : Entry = c.index_mut.result.now in
    let f : Entry = record e { cursor = c.args.cursor } in
    let at = read-at es c.args.i e low c.index_mut.ensures.value in
    let has : c.is_some.result ≡ is_some (ahead_of c.args.cursor) = c.is_some.ensures ∙ ap is_some c.ahead.ensures in
    let order = c.follow.new.order.items in (
      naming-entry es c.self.inside.current c.self.inside.pool _ c.args.i f c.self.invariant.0,
      indexed-set es c.self.inside.indexes.items c.args.i e f c.self.invariant.1 at refl,
      subst (λ (a : Ahead). TellsAhead a (slice_set es c.args.i f)) (sym c.after_pass-self-inside.ensures)
          (tells-pass c.self.inside.ahead es c.args.i f c.is_some.result c.self.invariant.2 has),
      subst (λ (l : List Entry). IsOrder order (length l)) c.as_slice.ensures.value c.follow.ensures.order,
      subst (λ (l : List Entry). HasSorted c.after_pass-self-inside.result order l) c.as_slice.ensures.value
          c.follow.ensures.sorted,
      subst (λ n. 255 ≤ n) (sym c.follow.ensures.capacity) c.self.invariant.5,
    )

pub returns : goal.returns
returns c =
    let es = c.self.inside.entries.items in
    let low = below _ _ _ c.args.i _ c.self.view_is c.requires in
    let e : Entry = c.index_mut.result.now in
    passed-there es (slice_set es c.args.i (record e { cursor = c.args.cursor })) c.self.inside.current
    c.self.inside.pool c.args.i c.args.cursor _ c.self.view_is c.requires
    (λ x at. ap (λ (y : Entry). slice_set es c.args.i (record y { cursor = c.args.cursor }))
    (sym (read-same es c.args.i e x low c.index_mut.ensures.value at)))
