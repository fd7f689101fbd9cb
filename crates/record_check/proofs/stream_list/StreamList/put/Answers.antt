-- The stream that is found has the record more, and a record that is not found begins one.
use Rattle.std.proofs.Common.{◌≡◌, ◌∙◌, List, None, Some, refl, sym, ap, arith}
use Rattle.std.specs.HashMap.{get}
use Rattle.record_check.specs.Index.{names_eq, place_in, IsAt}
use Rattle.record_check.specs.Streams.{StreamValue, streams_with}
use Rattle.record_check.proofs.CheckLemmas.{on_ok}
use Rattle.record_check.proofs.IndexLemmas.{begun_more, found_at, found_either}
use Rattle.record_check.proofs.stream_list.StreamList.put.Goals as goal

pub index_mut-stream-requires : goal.index_mut-stream-requires
index_mut-stream-requires c =
    let m = c.self.inside.places in
    let x = c.args.header.now in
    let found : place_in m x ≡ Some c.in-Some.place.now = ap (λ n. get names_eq m n) (sym c.of-name.ensures.name)
    ∙ sym c.in-Some.ensures.value in
    let at : IsAt x c.self.inside.streams.items c.in-Some.place.now =
    found_at m c.self.inside.streams.items x c.in-Some.place.now c.self.invariant c.of-name.ensures.codes found in
    let within = at.within in
    omega (arith, within, c.self.inside.streams.ok.0)

pub invariant_of-self : goal.invariant_of-self
invariant_of-self c =
    let m = c.self.inside.places in
    let x = c.args.header.now in
    let found : place_in m x ≡ Some c.in-Some.place.now = ap (λ n. get names_eq m n) (sym c.of-name.ensures.name)
    ∙ sym c.in-Some.ensures.value in
    (found_either c.go_on.result m c.self.inside.streams.items _ x c.in-Some.place.now c.index_mut-stream.result.now
    c.go_on.new.self c.self.invariant c.of-name.ensures.codes found c.index_mut-stream.ensures.value
    c.go_on.ensures.gone c.go_on.ensures.kept refl).1

pub returns-in-Some : goal.returns-in-Some
returns-in-Some c =
    let m = c.self.inside.places in
    let x = c.args.header.now in
    let found : place_in m x ≡ Some c.in-Some.place.now = ap (λ n. get names_eq m n) (sym c.of-name.ensures.name)
    ∙ sym c.in-Some.ensures.value in
    on_ok c.go_on.result _ _
    (found_either c.go_on.result m c.self.inside.streams.items _ x c.in-Some.place.now c.index_mut-stream.result.now
    c.go_on.new.self c.self.invariant c.of-name.ensures.codes found c.index_mut-stream.ensures.value
    c.go_on.ensures.gone c.go_on.ensures.kept refl).0
    (λ all. all ∙ ap (λ (ss : List StreamValue). streams_with ss x) c.self.view_is)

pub returns-in-None : goal.returns-in-None
returns-in-None c =
    let m = c.self.inside.places in
    let x = c.args.header.now in
    let none : place_in m x ≡ None = ap (λ n. get names_eq m n) (sym c.of-name.ensures.name)
    ∙ sym c.in-None.ensures.value in
    on_ok c.begin.result _ _ c.begin.ensures.begun
    (λ more. more ∙ begun_more m c.self.inside.streams.items x c.self.invariant c.of-name.ensures.codes none
    ∙ ap (λ (ss : List StreamValue). streams_with ss x) c.self.view_is)
