use Rattle.std.proofs.Common.{rules}
use Rattle.std.proofs.lemmas.List.Sorted.{IsNonDecreasingBy-from_sort_by_key}
use Rattle.continued_files.specs.declared.tail.Entry.{Entry}
use Rattle.continued_files.proofs.tail.in_order.Goals as goal

pub returns-clause-sorted : goal.returns-clause-sorted
returns-clause-sorted c =
    IsNonDecreasingBy-from_sort_by_key (λ (e : Entry). e.hash) _ c.in_ok-sort_by_key.ensures.sorted
    (λ a r q k. search rules)
