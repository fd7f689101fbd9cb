use Rattle.std.proofs.Common.{◌≡◌, rules}
use Rattle.ports_socket.proofs.HeldLemmas.{popped-table, popped-values}
use Rattle.ports_socket.proofs.connections.Connections.pop.Goals as goal

pub invariant_of-self : goal.invariant_of-self
invariant_of-self c =
    let same : c.pop.new.self.items ≡ c.self.inside.opened.items = search rules in
    rw same c.self.invariant

pub invariant_of-self-2 : goal.invariant_of-self-2
invariant_of-self-2 c =
    popped-table c.self.inside.slots c.free.new.slots c.self.inside.opened.items c.pop.new.self.items c.in-Some.place
    c.self.invariant c.in-Some.ensures.items c.free.ensures

pub returns : goal.returns
returns c =
    rw (← c.self.view_is)
    (popped-values c.self.inside.slots c.free.new.slots c.self.inside.opened.items c.pop.new.self.items c.in-Some.place
    c.self.invariant c.in-Some.ensures.items c.free.ensures)
