use Rattle.std.proofs.Common.{◌≡◌, ◌∙◌, ap, sym, slice_set}
use Rattle.std.proofs.lemmas.List.Edits.{map_over_more}
use Rattle.protocol.specs.Catalog.{Entry}
use Rattle.catalog.specs.Numbers.{entry_by, first_by}
use Rattle.catalog.proofs.numbers.begin_at.Goals as goal

pub loop-station-preserved : goal.loop-station-preserved
loop-station-preserved c =
    let kept = c.args.kept.now in
    let first = c.deref_mut-station-items.result.now in
    let now = c.loop-station.station-items in
    let i = c.loop-station.station-index in
    let x = c.station-item.result in
    let by_codes : c.first_by-first.result ≡ first_by kept x.station =
    c.first_by-first.ensures ∙ ap (λ (e : Entry). first_by kept e.station) (sym c.station-item.is) in
    let made : c.begin_at.new.self ≡ entry_by kept x =
    c.begin_at.ensures
    ∙ ap (λ (e : Entry). record e { station = record e.station { first = c.first_by-first.result } })
    (sym c.station-item.is)
    ∙ ap (λ n. record x { station = record x.station { first = n } }) by_codes in
    ap (λ (e : Entry). slice_set now i e) made
    ∙ map_over_more (entry_by kept) first now i x c.loop-station-test.true c.loop-station.invariant c.station-item.is
