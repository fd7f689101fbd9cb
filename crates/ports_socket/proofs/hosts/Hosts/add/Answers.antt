use Rattle.std.proofs.Common.{rules, ◌≡◌, List, ℕ, nat_le, subst, sym}
use Rattle.std.specs.List.{insert}
use Rattle.ports_socket.specs.Hosts.{Ascend, Parts}
use Rattle.ports_socket.proofs.HostLemmas.{ascend-insert}
use Rattle.ports_socket.proofs.hosts.Hosts.add.Goals as goal
use Rattle.ports_socket.proofs.hosts.Hosts.add.Goals.{in-Ok, in-Err}

pub invariant_of-self : goal.invariant_of-self
invariant_of-self c =
    let xs = c.self.inside.addresses.items in
    let a = c.args.address in
    let upper : Parts (λ x. nat_le x a) xs c.place_above-at.result =
    rw c.as_slice.ensures.value at c.place_above-at.ensures in
    elim c.match-insert.branch [
      | in-Ok w ↦ let items : c.insert.new.self.items ≡ insert xs c.place_above-at.result a = search rules in
          subst (λ (l : List ℕ). Ascend l) (sym items) (ascend-insert a xs _ c.self.invariant upper)
      | in-Err w ↦ let items : c.insert.new.self.items ≡ xs = search rules in
          subst (λ (l : List ℕ). Ascend l) (sym items) c.self.invariant
    ]
