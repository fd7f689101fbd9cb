use Rattle.std.proofs.Common.{Some, option_map, ◌≡◌, ◌∙◌, ap, sym, rules, get_or, ◌<◌, length}
use Rattle.catalog.specs.Places.{station_at}
use Rattle.catalog.specs.Finding.{has_code}
use Rattle.catalog.proofs.FindLemmas.{found-here, passed-by}
use Rattle.catalog.proofs.OrderLemmas.{long_code_nowhere}
use Rattle.catalog.proofs.view.find_code.Goals as goal

pub returns-then-has_code-clause-found : goal.returns-then-has_code-clause-found
returns-then-has_code-clause-found c =
    let p = has_code c.args.code.now in
    let within : get_or c.args.places.now c.loop-place.place-index 0 < length c.args.stations.now = search rules in
    let same : c.from-place.result ≡ get_or c.args.places.now c.loop-place.place-index 0 = search rules in
    let is : c.index-stations-place.result
    ≡ get_or c.args.stations.now (get_or c.args.places.now c.loop-place.place-index 0) c.index-stations-place.result =
    c.index-stations-place.is ∙ ap (λ k. get_or c.args.stations.now k c.index-stations-place.result) same in
    ap (λ k. Some (station_at c.args.stations.now k)) same
    ∙ sym
    (found-here p c.args.stations.now c.args.places.now c.loop-place.place-index c.index-stations-place.result
    c.loop-place-test.true within is
    (sym (c.has_code.ensures c.args.code.now c.in_ok-sought.ensures.number) ∙ c.if-has_code.true))
    ∙ c.loop-place.invariant

pub loop-place-preserved : goal.loop-place-preserved
loop-place-preserved c =
    let p = has_code c.args.code.now in
    let within : get_or c.args.places.now c.loop-place.place-index 0 < length c.args.stations.now = search rules in
    let same : c.from-place.result ≡ get_or c.args.places.now c.loop-place.place-index 0 = search rules in
    let is : c.index-stations-place.result
    ≡ get_or c.args.stations.now (get_or c.args.places.now c.loop-place.place-index 0) c.index-stations-place.result =
    c.index-stations-place.is ∙ ap (λ k. get_or c.args.stations.now k c.index-stations-place.result) same in
    sym
    (passed-by p c.args.stations.now c.args.places.now c.loop-place.place-index c.index-stations-place.result
    c.loop-place-test.true within is
    (sym (c.has_code.ensures c.args.code.now c.in_ok-sought.ensures.number) ∙ c.if-has_code.false))
    ∙ c.loop-place.invariant

pub returns-in_err-sought-clause-found : goal.returns-in_err-sought-clause-found
returns-in_err-sought-clause-found c =
    ap (option_map (station_at c.args.stations.now)) c.from_residual.ensures
    ∙ sym (long_code_nowhere c.args.stations.now c.args.places.now c.args.code.now c.requires.within c.requires.short
    c.in_err-sought.ensures.long)
