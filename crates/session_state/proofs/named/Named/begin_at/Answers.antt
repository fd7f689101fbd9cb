use Rattle.std.proofs.Common.{refl, sym, ap, arith, slice_set}
use Rattle.session_state.specs.declared.choices.Entry.{Entry}
use Rattle.session_state.proofs.EntryLemmas.{indexed-set, read-at, read-same, tells-set}
use Rattle.session_state.proofs.NamedLemmas.{below, kept-there, naming-entry}
use Rattle.session_state.proofs.OrderChangeLemmas.{order-set, sorted-set}
use Rattle.session_state.proofs.named.Named.begin_at.Goals as goal

pub index_mut-requires : goal.index_mut-requires
index_mut-requires c =
    let low = below _ _ _ c.args.i _ c.self.view_is c.requires in
    omega (arith, low, c.self.inside.entries.ok.0)

pub invariant_of-self : goal.invariant_of-self
invariant_of-self c =
    let es = c.self.inside.entries.items in
    let low = below _ _ _ c.args.i _ c.self.view_is c.requires in
    let e : Entry = c.index_mut.result.now in
    let f : Entry = record e { first = c.args.first } in
    let at = read-at es c.args.i e low c.index_mut.ensures.value in (
      naming-entry es c.self.inside.current c.self.inside.pool _ c.args.i f c.self.invariant.0,
      indexed-set es c.self.inside.indexes.items c.args.i e f c.self.invariant.1 at refl,
      tells-set c.self.inside.ahead es c.args.i e f c.self.invariant.2 at refl,
      order-set es c.args.i f c.self.inside.order.items c.self.invariant.3,
      sorted-set c.self.inside.ahead es c.args.i e f c.self.inside.order.items c.self.invariant.4 at refl,
      c.self.invariant.5,
    )

pub returns : goal.returns
returns c =
    let es = c.self.inside.entries.items in
    let low = below _ _ _ c.args.i _ c.self.view_is c.requires in
    let e : Entry = c.index_mut.result.now in
    kept-there es (slice_set es c.args.i (record e { first = c.args.first })) c.self.inside.current c.self.inside.pool
    c.args.i c.args.first _ c.self.view_is c.requires
    (λ x at. ap (λ (y : Entry). slice_set es c.args.i (record y { first = c.args.first }))
    (sym (read-same es c.args.i e x low c.index_mut.ensures.value at)))
