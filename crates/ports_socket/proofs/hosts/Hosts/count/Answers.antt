use Rattle.std.proofs.Common.{◌≡◌, ◌+◌, arith, nat_le, nat_lt}
use Rattle.ports_socket.specs.Hosts.{Parts, clients_of}
use Rattle.ports_socket.proofs.HostLemmas.{between}
use Rattle.ports_socket.proofs.hosts.Hosts.count.Goals as goal

pub returns : goal.returns
returns c =
    let xs = c.self.inside.addresses.items in
    let a = c.args.address in
    let lower : Parts (λ x. nat_lt x a) xs c.place_below-from.result =
    rw c.as_slice.ensures.value at c.place_below-from.ensures in
    let upper : Parts (λ x. nat_le x a) xs c.place_above-to.result =
    rw c.as_slice-2.ensures.value at c.place_above-to.ensures in
    let all : clients_of a xs + c.place_below-from.result ≡ c.place_above-to.result =
    between a xs _ _ lower upper in
    rw (← c.self.view_is) (omega (arith, all))
