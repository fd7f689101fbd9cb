use Rattle.std.proofs.Common.{◌≡◌, ◌∙◌, ◌<◌, ◌≤◌, ◌+◌, ◌++◌, [], List, ap, ap₂, arith}
use Rattle.std.proofs.Common.{get_or, length, map, subst, sym, take}
use Rattle.std.proofs.lemmas.List.{get_or-map, length-map, length-take-le, take-map}
use Rattle.toml.specs.View.{view}
use Rattle.catalog.specs.Groups.{groups_value}
use Rattle.catalog.specs.Keys.{table_in}
use Rattle.config_explained.specs.AllFaults.{FoundFault, found_fault, value_faults, values_faults}
use Rattle.config_explained.proofs.FaultLemmas.{value_more, values_left}
use Rattle.config_explained.proofs.all_faults.tell_values.Goals as goal

pub loop-place-preserved : goal.loop-place-preserved
loop-place-preserved c =
    let groups = groups_value c.args.groups.now in
    let vs = c.args.values.now in
    let place = c.loop-place.place in
    let value = c.index-values-place.result in
    let ds = map view vs in
    let so_far : List FoundFault = map found_fault c.loop-place.faults.items in
    let inside : place < length ds = subst (λ n. place < n) (sym (length-map vs view)) c.loop-place-test.true in
    let item : view value ≡ get_or ds place (view value) =
    ap view c.index-values-place.is ∙ sym (get_or-map view vs place value (view value) c.loop-place-test.true) in
    let before : length (take place vs) ≡ place = length-take-le place vs (omega (arith, c.loop-place-test.true)) in
    let made : map found_fault c.tell_value.new.faults.items
    ≡ so_far ++ value_faults groups (take place ds) place (table_in (view value)) =
    c.in_ok-tell_value.ensures
    ∙ ap₂ (λ es n. so_far ++ value_faults groups es n (table_in (view value))) (sym (take-map view place vs)) before in
    value_more groups ds (map found_fault c.args.faults.now.items ++ values_faults groups [] 0 ds) so_far place
    (view value) c.loop-place.invariant inside item
    ∙ ap (λ t. t ++ values_left groups ds (place + 1)) (sym made)
