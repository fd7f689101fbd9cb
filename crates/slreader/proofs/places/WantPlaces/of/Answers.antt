use Rattle.std.proofs.Common.{◌≡◌, ◌∙◌, ◌+◌, ◌-◌, ◌<◌, ap, ap₂, arith, get_or, length, subst, sym}
use Rattle.std.proofs.lemmas.List.{get_or-map, length-map, length-set}
use Rattle.slreader.specs.Placing.{Finds, Follows, Name, name_by, name_of, names}
use Rattle.slreader.proofs.PlacingLemmas.{finds_before, follows_before}
use Rattle.slreader.proofs.places.WantPlaces.of.Goals as goal

pub loop-place-preserved : goal.loop-place-preserved
loop-place-preserved c =
    let rs = c.args.resumes.now in
    let p = c.loop-place.place - 1 in
    let r = c.index-resumes-place.result in
    let name : Name = name_by c.network.result.now c.station.result.now in
    let some = c.loop-place-test.true in
    let up_to = c.loop-place.invariant.within in
    let back : p + 1 ≡ c.loop-place.place = omega (arith, some) in
    let inside : p < length rs = omega (arith, some, up_to) in
    let within : p < length (names rs) = subst (λ n. p < n) (sym (length-map rs name_of)) inside in
    let there : name ≡ name_of r = ap₂ name_by c.network.ensures c.station.ensures in
    let at : name ≡ get_or (names rs) p name =
    there ∙ ap name_of c.index-resumes-place.is ∙ sym (get_or-map name_of rs p r name inside) in
    let finds : Finds c.loop-place.firsts (p + 1) (names rs) =
    subst (λ k. Finds c.loop-place.firsts k (names rs)) (sym back) c.loop-place.invariant.finds in
    let follows : Follows c.loop-place.nexts.items (p + 1) (names rs) =
    subst (λ k. Follows c.loop-place.nexts.items k (names rs)) (sym back) c.loop-place.invariant.follows in
    record {
      finds = finds_before c.loop-place.firsts c.put.new.firsts (names rs) p name within at finds
          c.in_ok-nexts-2.ensures.firsts;
      follows = follows_before c.loop-place.nexts.items c.loop-place.firsts (names rs) p name c.in_ok-nexts-2.field-0
          within (subst (λ n. p < n) (sym c.loop-place.invariant.size) inside) at finds c.in_ok-nexts-2.ensures.next
          follows;
      size = length-set c.loop-place.nexts.items p c.in_ok-nexts-2.field-0 ∙ c.loop-place.invariant.size;
      within = omega (arith, inside);
    }
