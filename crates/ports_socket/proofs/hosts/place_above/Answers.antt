use Rattle.std.proofs.Common.{rules, nat_le}
use Rattle.std.proofs.lemmas.List.Sorted.{IsPartitionPoint-from_clause, IsPartitionedBy-leb}
use Rattle.ports_socket.proofs.HostLemmas.{non-decreasing, parts-from}
use Rattle.ports_socket.proofs.hosts.place_above.Goals as goal

pub returns : goal.returns
returns c =
    let facts = c.partition_point.ensures in
    let xs = c.args.addresses.now in
    let parted = IsPartitionedBy-leb (λ x. x) xs c.args.address (non-decreasing xs c.requires) in
    parts-from (λ x. nat_le x c.args.address) xs _ facts.bound
    (IsPartitionPoint-from_clause (λ x. nat_le x c.args.address) xs _ facts.partitioned parted
    (λ a r f called. search rules))
