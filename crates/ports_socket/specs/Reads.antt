-- What a read of a connection gives.
-- Ports are this project's own. Left out: which bytes the peer sent.
use Rattle.std.specs.Prelude.{◌≡◌, ℕ, ◌+◌, ◌++◌, false, List, [], take, None, Result, Ok, Err}
use Rattle.ports.specs.declared.answers.Got.{Got}
use Rattle.ports.specs.declared.answers.Got.TheVariants.{Bytes, Later, Closed}
use Rattle.ports.specs.declared.answers.PortFault.{PortFault}
use Rattle.ports_socket.specs.declared.connection.Connection.{Connection}
use Rattle.ports_socket.specs.declared.socket_io.Receipt.{Receipt}
use Rattle.ports_socket.specs.declared.socket_io.Receipt.TheVariants as receipt
use Rattle.ports_socket.specs.declared.peer.PeerKind.{PeerKind}
use Rattle.ports_socket.specs.declared.peer.PeerKind.TheVariants.{Client, Feed}
use Rattle.ports_socket.specs.Ends.{IsPast}
use Rattle.ports_socket.specs.Rations.{given_since}

-- Nothing waits for a client, and its end was found before the last poll with nothing moved since the one before that.
abbrev pub IsOver : Connection → ℕ → Type 0
IsOver connection polls =
    (connection.unsent ≡ None) × (connection.owes_writable ≡ false) × IsPast connection.end polls

-- What a client's connection gives counts towards its ration, and its end is told only where it is over. A feed gives
-- all that it has.
abbrev pub ReadsBy : PeerKind → (polls : ℕ) → (before after : Connection) → Result Got PortFault → Type 0
ReadsBy Client polls before after (Ok (Bytes count)) =
    given_since after.ration polls ≡ given_since before.ration polls + count
ReadsBy Client polls before after (Ok Closed) = IsOver before polls
ReadsBy Client polls before after (Ok Later) = given_since after.ration polls ≡ given_since before.ration polls
ReadsBy Client polls before after (Err fault) = given_since after.ration polls ≡ given_since before.ration polls
ReadsBy Feed polls before after answer = Unit {0}

-- the bytes that a read gave, by its answer and the buffer after it
abbrev pub given_bytes : Result Got PortFault → List ℕ → List ℕ
given_bytes (Ok (Bytes count)) buffer = take count buffer
given_bytes (Ok Later) buffer = []
given_bytes (Ok Closed) buffer = []
given_bytes (Err fault) buffer = []

-- the same of what the system gave
abbrev pub received_bytes : Receipt → List ℕ → List ℕ
received_bytes (receipt.Bytes count) buffer = take count buffer
received_bytes receipt.WouldBlock buffer = []
received_bytes receipt.Closed buffer = []
received_bytes receipt.Failed buffer = []

-- What is given and what is ahead after that is what was ahead before, and then what came from the system: nothing is
-- lost, doubled or reordered.
pub record GivesInOrder (before given after : List ℕ) : Type 0 where
  pub received : List ℕ
  pub in_order : given ++ after ≡ before ++ received
