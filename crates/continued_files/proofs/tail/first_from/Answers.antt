use Rattle.std.proofs.Common.{rules, nat_lt}
use Rattle.std.proofs.lemmas.List.Sorted.{IsPartitionPoint-from_clause, IsPartitionedBy-ltb}
use Rattle.continued_files.specs.declared.tail.Entry.{Entry}
use Rattle.continued_files.proofs.TailLemmas.{first-from}
use Rattle.continued_files.proofs.tail.first_from.Goals as goal

pub returns : goal.returns
returns c =
    let facts = c.partition_point.ensures in
    let order = c.args.order.now in
    let parted = IsPartitionedBy-ltb (λ (x : Entry). x.hash) order c.args.hash c.requires in
    first-from order c.args.hash _
    (IsPartitionPoint-from_clause (λ (x : Entry). nat_lt x.hash c.args.hash) order _ facts.partitioned parted
    (λ a r f called. search rules)) facts.bound
