use Rattle.std.proofs.Common.{rules}
use Rattle.std.proofs.lemmas.List.Sorted.{answers_always}
use Rattle.ports_socket.proofs.PeerLemmas.{searched}
use Rattle.ports_socket.proofs.peers.place_of.Goals as goal

pub returns : goal.returns
returns c =
    let facts = c.binary_search_by_key.ensures in
    let by_key = facts.position (λ p. p.number) (answers_always _ _ _ (λ f a r g called. search rules)) in
    searched _ c.requires c.args.number _ facts.bound by_key
