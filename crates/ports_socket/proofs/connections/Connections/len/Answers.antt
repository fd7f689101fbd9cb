use Rattle.std.proofs.Common.{rules, ◌≡◌, ◌∙◌, length, sym}
use Rattle.std.proofs.lemmas.List.{length-map}
use Rattle.ports_socket.specs.Connections.{value_of}
use Rattle.ports_socket.specs.Places.{connections_at}
use Rattle.ports_socket.specs.declared.connection.Connection.{Connection}
use Rattle.ports_socket.proofs.TableLemmas.{length-there}
use Rattle.ports_socket.proofs.connections.Connections.len.Goals as goal

pub returns : goal.returns
returns c =
    let slots = c.self.inside.slots in
    let places = c.self.inside.opened.items in
    let counted : c.len.result ≡ length places = search rules in
    rw (← c.self.view_is)
    (counted ∙ sym (length-map (connections_at slots places) (λ (x : Connection). value_of x)
    ∙ length-there slots places c.self.invariant.there))
