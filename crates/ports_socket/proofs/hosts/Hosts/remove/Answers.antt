use Rattle.std.proofs.Common.{rules, ◌≡◌, ◌<◌, List, ℕ, arith, nat_lt, subst, sym}
use Rattle.std.specs.List.{remove}
use Rattle.ports_socket.specs.Hosts.{Ascend, IsUncounted, Parts, clients_of}
use Rattle.ports_socket.proofs.HostLemmas.{ascend-remove, at-place, uncounted-remove}
use Rattle.ports_socket.proofs.hosts.Hosts.remove.Goals as goal

pub remove-gone-requires : goal.remove-gone-requires
remove-gone-requires c =
    let xs = c.self.inside.addresses.items in
    let a = c.args.address in
    let lower : Parts (λ x. nat_lt x a) xs c.place_below-at.result =
    rw c.as_slice.ensures.value at c.place_below-at.ensures in
    let some : 0 < clients_of a xs = rw (sym c.self.view_is) at c.requires in
    let there = at-place a xs c.place_below-at.result c.self.invariant lower some in
    omega (arith, there.0, c.self.inside.addresses.ok.0)

pub invariant_of-self : goal.invariant_of-self
invariant_of-self c =
    let xs = c.self.inside.addresses.items in
    let items : c.remove-gone.new.self.items ≡ remove xs c.place_below-at.result = search rules in
    subst (λ (l : List ℕ). Ascend l) (sym items) (ascend-remove xs c.place_below-at.result c.self.invariant)

pub returns : goal.returns
returns c =
    let xs = c.self.inside.addresses.items in
    let a = c.args.address in
    let lower : Parts (λ x. nat_lt x a) xs c.place_below-at.result =
    rw c.as_slice.ensures.value at c.place_below-at.ensures in
    let some : 0 < clients_of a xs = rw (sym c.self.view_is) at c.requires in
    let there = at-place a xs c.place_below-at.result c.self.invariant lower some in
    let items : c.remove-gone.new.self.items ≡ remove xs c.place_below-at.result = search rules in
    rw (← c.self.view_is) (subst (λ (l : List ℕ). IsUncounted a xs l) (sym items)
    (uncounted-remove a xs c.place_below-at.result there.0 there.1))
