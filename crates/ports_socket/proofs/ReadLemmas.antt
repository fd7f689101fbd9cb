-- What was read ahead, and what a read gives of it.
use Rattle.std.proofs.Common.{◌≡◌, ℕ, ◌++◌, List, [], true, is_none, Option, Some, None, refl, ap}
use Rattle.ports_socket.specs.Admissions.{is_client}
use Rattle.ports_socket.specs.Connections.{ahead_in}
use Rattle.ports_socket.specs.Reads.{GivesInOrder}
use Rattle.ports_socket.specs.declared.peer.PeerKind.{PeerKind}
use Rattle.ports_socket.specs.declared.peer.PeerKind.TheVariants.{Client}

-- Nothing was ahead.
gives_new : (given after : List ℕ) → GivesInOrder [] given after
gives_new given after = record { received = given ++ after; in_order = refl }

-- Nothing is read ahead of a client.
pub gives_of_client : (kind : PeerKind) (old new : Option (List ℕ)) (given : List ℕ)
    → (is_client kind ≡ true → is_none old ≡ true) → kind ≡ Client
    → GivesInOrder (ahead_in old) given (ahead_in new)
gives_of_client kind None new given of_feeds is = gives_new given (ahead_in new)
gives_of_client kind (Some ahead) new given of_feeds is =
    let no : is_none (Some ahead) ≡ true = of_feeds (ap is_client is) in absurd cc
