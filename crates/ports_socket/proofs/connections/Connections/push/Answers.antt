use Rattle.std.proofs.Common.{◌∙◌, ◌++◌, ◌∷◌, List, [], ap}
use Rattle.ports_socket.specs.Connections.{value_of, values}
use Rattle.ports_socket.specs.Places.{AreBelow, connections_at, numbers_of}
use Rattle.ports_socket.specs.declared.connections.ConnectionPlace.{ConnectionPlace}
use Rattle.ports_socket.specs.declared.connection.Connection.{Connection}
use Rattle.ports_socket.proofs.HeldLemmas.{joined-values}
use Rattle.ports_socket.proofs.TableLemmas.{connections-same, joined-table, roomy, table-same}
use Rattle.ports_socket.proofs.connections.Connections.push.Goals as goal

pub invariant_of-self : goal.invariant_of-self
invariant_of-self c = rw c.reserve.ensures.items c.self.invariant

pub invariant_of-self-then-is_err-2 : goal.invariant_of-self-then-is_err-2
invariant_of-self-then-is_err-2 c =
    rw c.reserve.ensures.items
    (table-same c.self.inside.slots c.reserve-else-is_err.new.self c.self.inside.opened.items
    (roomy c.self.inside.slots c.reserve-else-is_err.new.self _ c.reserve-else-is_err.ensures.rest_kept)
    c.self.invariant)

pub invariant_of-self-2 : goal.invariant_of-self-2
invariant_of-self-2 c =
    let places = c.self.inside.opened.items in
    let table = table-same c.self.inside.slots c.reserve-else-is_err.new.self places
    (roomy c.self.inside.slots c.reserve-else-is_err.new.self _ c.reserve-else-is_err.ensures.rest_kept)
    c.self.invariant in
    let below : AreBelow c.args.connection.number (numbers_of places) =
    rw c.as_slice.ensures.value at (c.is_above.ensures c.if-not-is_above.false) in
    rw c.push_reserved.ensures.items
    (rw c.reserve.ensures.items
    (joined-table c.reserve-else-is_err.new.self c.insert_reserved-key.new.self places c.insert_reserved-key.result
    c.args.connection.number c.new.result table c.insert_reserved-key.ensures.was_vacant
    c.insert_reserved-key.ensures.updates (ap (λ (x : Connection). x.number) c.new.ensures.connection)
    c.new.ensures.open below))

pub returns-clause-added : goal.returns-clause-added
returns-clause-added c =
    let places = c.self.inside.opened.items in
    let same = roomy c.self.inside.slots c.reserve-else-is_err.new.self _ c.reserve-else-is_err.ensures.rest_kept in
    let table = table-same c.self.inside.slots c.reserve-else-is_err.new.self places same c.self.invariant in
    rw (← c.self.view_is)
    (ap (λ ps. values (connections_at c.insert_reserved-key.new.self ps)) (c.push_reserved.ensures.items
    ∙ ap (λ (ps : List ConnectionPlace). ps
    ++ record { number = c.args.connection.number; key = c.insert_reserved-key.result } ∷ []) c.reserve.ensures.items)
    ∙ joined-values c.reserve-else-is_err.new.self c.insert_reserved-key.new.self places c.insert_reserved-key.result
    c.args.connection c.new.result table c.insert_reserved-key.ensures.was_vacant
    c.insert_reserved-key.ensures.updates c.new.ensures.connection
    ∙ ap (λ l. values l ++ value_of c.args.connection ∷ [])
    (connections-same c.self.inside.slots c.reserve-else-is_err.new.self places same))
