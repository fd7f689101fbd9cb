use Rattle.std.proofs.Common.{rules, ◌≡◌, subst}
use Rattle.std.specs.List.Sorted.{IsPermutation}
use Rattle.std.proofs.lemmas.Fn.{always_returns_same}
use Rattle.std.proofs.lemmas.List.Sorted.{IsNonDecreasingBy-from_sort}
use Rattle.catalog.specs.Orders.{rank_at}
use Rattle.catalog.specs.Places.{station_at}
use Rattle.catalog.proofs.OrderLemmas.{in_order_sorted}
use Rattle.catalog.proofs.view.in_order.Goals as goal

pub returns : goal.returns
returns c =
    let facts = c.sort_unstable_by_key.ensures in
    let copied : c.in_ok-order.order.items ≡ c.args.places.now = search rules in
    in_order_sorted (station_at c.args.stations.now) c.args.places.now c.sort_unstable_by_key.new.self.items
    (subst (λ l. IsPermutation l c.sort_unstable_by_key.new.self.items) copied facts.permutation)
    (IsNonDecreasingBy-from_sort (rank_at c.args.stations.now) c.sort_unstable_by_key.new.self.items
    (facts.sorted (rank_at c.args.stations.now)
    (always_returns_same _ (λ a r. r ≡ rank_at c.args.stations.now a.0.now) _ (λ a r f called. search rules))))
