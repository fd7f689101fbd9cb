use Rattle.ports_socket.proofs.PlaceLemmas.{below-last}
use Rattle.ports_socket.proofs.connections.is_above.Goals as goal

pub returns-in-Some : goal.returns-in-Some
returns-in-Some c =
    λ less.
    below-last c.args.number c.args.places.now c.requires c.in-Some.last.now c.in-Some.ensures.item.1 less
