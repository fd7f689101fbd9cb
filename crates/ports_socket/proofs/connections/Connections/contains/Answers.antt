use Rattle.std.proofs.Common.{subst, sym}
use Rattle.std.specs.List.{Contains}
use Rattle.ports_socket.specs.Connections.{numbers, values}
use Rattle.ports_socket.specs.Places.{connections_at}
use Rattle.ports_socket.proofs.HeldLemmas.{open-contains}
use Rattle.ports_socket.proofs.connections.Connections.contains.Goals as goal

pub returns-in-Some : goal.returns-in-Some
returns-in-Some c =
    λ is.
    let slots = c.self.inside.slots in
    let places = c.self.inside.opened.items in
    let port = c.is_port.ensures.0 is in
    rw (← c.self.view_is)
    (subst (λ n. Contains (numbers (values (connections_at slots places))) n) port.1
    (open-contains slots places c.args.place.key c.in-Some.held.now c.self.invariant (sym c.in-Some.ensures) port.0))
