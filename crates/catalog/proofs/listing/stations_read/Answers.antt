use Rattle.std.proofs.Common.{rules, ◌≡◌, ◌∙◌, ◌+◌, false, [], ◌∷◌, ◌++◌, subst, sym, ap, length, length-append, map}
use Rattle.std.proofs.Common.{All, Ok, Err}
use Rattle.std.proofs.lemmas.List.Elements.{All-push}
use Rattle.std.proofs.lemmas.Result.{err_from_is_err_and}
use Rattle.toml.specs.View.{view}
use Rattle.catalog.specs.Failing.{FailsWithin}
use Rattle.catalog.specs.Groups.{groups_value}
use Rattle.catalog.specs.Indexing.{Finds, HasShortCodes}
use Rattle.catalog.specs.Keys.{table_in}
use Rattle.catalog.specs.Places.{HasDistinctCodes}
use Rattle.catalog.specs.Reading.{is_repeated, station_of}
use Rattle.catalog.proofs.DistinctLemmas.{distinct_more}
use Rattle.catalog.proofs.FailingLemmas.{fails_at_place, goes_on, read_next, value_item}
use Rattle.catalog.proofs.ReadLemmas.{read_on}
use Rattle.catalog.proofs.listing.stations_read.Goals as goal

pub loop-value-preserved : goal.loop-value-preserved
loop-value-preserved c =
    let earlier = c.loop-value.stations.items in
    let groups = groups_value c.args.groups.now in
    let station = c.in_ok-station.station in
    let value = c.value-item.result in
    let apart : is_repeated earlier station.station ≡ false =
    ap (λ es. is_repeated es station.station) (sym c.as_slice.ensures.value) ∙ c.in_ok-station.ensures.apart in
    let more : c.push.new.self.items ≡ earlier ++ station ∷ [] = search rules in
    let read = ap (λ es. station_of groups es (view value)) (sym c.as_slice.ensures.value) ∙ c.in_ok-station.ensures.ok in
    let there = value_item c.args.values.now c.loop-value.value-index value c.loop-value-test.true c.value-item.is in
    record {
      before =
          read_next groups (map view c.args.values.now) c.loop-value.value-index (view value) earlier there.0 there.1
          c.loop-value.invariant.before
          ∙ goes_on (station_of groups earlier (view value)) _ station read ∙ ap Ok (sym more);
      size =
          ap length more ∙ length-append earlier (station ∷ [])
          ∙ ap (λ n. n + 1) c.loop-value.invariant.size;
      read =
          read_on groups earlier c.push.new.self.items c.args.values.now c.loop-value.value-index value station
          c.loop-value-test.true c.value-item.is more read ∙ c.loop-value.invariant.read;
      distinct = subst HasDistinctCodes (sym more)
          (distinct_more earlier station c.loop-value.invariant.distinct apart c.in_ok-station.ensures.some);
      finds = subst (Finds c.station_of.new.index.places) (sym more) (subst (λ es. Finds c.station_of.new.index.places
          (es ++ station ∷ [])) c.as_slice.ensures.value c.in_ok-station.ensures.finds);
      short = subst (All HasShortCodes) (sym more)
          (All-push HasShortCodes earlier station c.loop-value.invariant.short c.in_ok-station.ensures.short);
    }

pub returns-in_err-station-clause-step : goal.returns-in_err-station-clause-step
returns-in_err-station-clause-step c =
    let p = err_from_is_err_and c.from_residual.result c.from_residual.ensures.1 in
    rw (p.1 ∙ ap Err p.2) (λ not_memory.
    let earlier = c.loop-value.stations.items in
    let same = c.as_slice.ensures.value in
    let groups = groups_value c.args.groups.now in
    let table = table_in (view c.value-item.result) in
    let within = subst (λ es. FailsWithin groups (length es) es table c.in_err-station.field-0.0) same
    (c.in_err-station.ensures.step not_memory) in
    fails_at_place groups c.args.values.now c.loop-value.value-index c.value-item.result earlier c.in_err-station.field-0.0
    c.in_err-station.field-0.0.step c.loop-value-test.true c.value-item.is c.loop-value.invariant.before
    c.loop-value.invariant.size
    within within
    (subst (λ es. station_of groups es (view c.value-item.result) ≡ Err c.in_err-station.field-0.0.fault) same
    (c.in_err-station.ensures.fault not_memory)))
