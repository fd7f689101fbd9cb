use Rattle.std.proofs.Common.{rules, ℕ, ◌-◌, ◌^◌, List, Vec, Global, ap, subst, sym}
use Rattle.std.proofs.lemmas.List.Sorted.{IsNonDecreasingBy-from_sort_by_key}
use Rattle.std.specs.List.Sorted.{IsNonDecreasingBy}
use Rattle.status_page.specs.declared.value.StationStatus.{StationStatus}
use Rattle.server_watch.proofs.watch.Watch.stations.Goals as goal
use Rattle.server_watch.proofs.watch.Watch.stations.Goals.{then-is_by_age+in_ok-sort_by_key, else-is_by_age}

pub returns-clause-by_age : goal.returns-clause-by_age
returns-clause-by_age g c = λ yes.
    let key : StationStatus → ℕ = λ s. 2 ^ 64 - 1 - s.age in
    elim c.if-is_by_age.branch [
      | then-is_by_age+in_ok-sort_by_key w ↦
          subst (λ (l : List StationStatus). IsNonDecreasingBy key l)
          (sym (ap (λ (v : Vec StationStatus Global). v.items) w.stations-is))
          (IsNonDecreasingBy-from_sort_by_key key _ w.in_ok-sort_by_key.ensures.sorted (λ a r q k. search rules))
      | else-is_by_age w ↦ absurd cc
    ]
