use Rattle.std.proofs.Common.{rules}
use Rattle.std.proofs.lemmas.List.Sorted.{answers_always}
use Rattle.ports_socket.specs.declared.connections.ConnectionPlace.{ConnectionPlace}
use Rattle.ports_socket.proofs.PlaceLemmas.{place_absent, place_found}
use Rattle.ports_socket.proofs.connections.place_of.Goals as goal

pub returns-in-Ok-clause-found : goal.returns-in-Ok-clause-found
returns-in-Ok-clause-found c =
    place_found c.args.places.now c.requires c.args.number c.in-Ok.at c.in-Ok.ensures.bound
    (c.in-Ok.ensures.position (λ (x : ConnectionPlace). x.number) (answers_always _ _ _ (λ f a r g called. search rules)))

pub returns-in-Err-clause-absent : goal.returns-in-Err-clause-absent
returns-in-Err-clause-absent c =
    place_absent c.args.places.now c.requires c.args.number _ c.in-Err.ensures.bound
    (c.in-Err.ensures.position (λ (x : ConnectionPlace). x.number) (answers_always _ _ _ (λ f a r g called. search rules)))
