-- The ports that joined, and whose the open ones are.
-- Ports are this project's own. Left out: whether the address that the system reports for a connection is the peer's.
use Rattle.std.specs.Prelude.{◌≡◌, ℕ, ◌+◌, ◌<◌, ◌≤◌, ◌==◌, not, List, [], ◌∷◌, ◌++◌, length, slice_index_or}
use Rattle.std.specs.Prelude.{find, Option, Some, None, Result, Ok, Err}
use Rattle.std.specs.List.{filter}
use Rattle.std.specs.declared.net.ipv4_addr.Ipv4Addr.{Ipv4Addr}
use Rattle.ports.specs.declared.answers.Happening.{Happening}
use Rattle.ports.specs.declared.answers.Happening.TheVariants.{Joined, JoinedFeed, Readable, Writable, Quiet}
use Rattle.ports.specs.declared.answers.PortFault.{PortFault}
use Rattle.ports_socket.specs.Admissions.{IsAdmitted}
use Rattle.ports_socket.specs.declared.admission.Admission.{Admission}
use Rattle.ports_socket.specs.declared.peer.PeerKind.{PeerKind}
use Rattle.ports_socket.specs.declared.peer.PeerKind.TheVariants.{Client, Feed}
use Rattle.ports_socket.specs.declared.peer.Peer.{Peer}
use Rattle.ports_socket.specs.declared.sockets.joining.Taken.{Taken}
use Rattle.ports_socket.specs.declared.sockets.joining.Taken.TheVariants as taken

-- whose connections are taken, how many ports joined, and whose the open ones are
pub record PeersValue : Type 0 where
  pub admission : Admission
  pub joined : ℕ
  pub opened : List Peer

-- the open ports but one
abbrev pub without : ℕ → List Peer → List Peer
without number peers = filter (λ p. not (p.number == number)) peers

-- the address of an open port; 0.0.0.0 if it is not open
abbrev pub address_or : Option Peer → Ipv4Addr
address_or None = record { octets = 0 ∷ 0 ∷ 0 ∷ 0 ∷ [] }
address_or (Some peer) = peer.address

abbrev pub address_at : ℕ → List Peer → Ipv4Addr
address_at number peers = address_or (find (λ p. p.number == number) peers)

-- All numbers are above one, or below one.
abbrev pub AreAbove : ℕ → List Peer → Type 0
AreAbove n [] = Unit {0}
AreAbove n (p ∷ ps) = (n < p.number) × AreAbove n ps

abbrev pub AreBelow : ℕ → List Peer → Type 0
AreBelow n [] = Unit {0}
AreBelow n (p ∷ ps) = (p.number < n) × AreBelow n ps

-- The numbers rise.
abbrev pub Rise : List Peer → Type 0
Rise [] = Unit {0}
Rise (p ∷ ps) = AreAbove p.number ps × Rise ps

-- the port where there is none
abbrev pub no_peer : Peer
no_peer = record { number = 0; kind = Client; address = record { octets = [] } }

-- the number of the port at a place
abbrev pub number_at : List Peer → ℕ → ℕ
number_at ps i = let p : Peer = slice_index_or ps i no_peer in p.number

-- The port at a place has a number.
pub record IsPeerAt (ps : List Peer) (number at : ℕ) : Type 0 where
  pub inside : at < length ps
  pub has_number : number_at ps at ≡ number

-- A number would be at a place: lower ones before it, and higher ones from it on.
pub record IsGapFor (ps : List Peer) (number at : ℕ) : Type 0 where
  pub inside : at ≤ length ps
  pub lower_before : (j : ℕ) → j < at → number_at ps j < number
  pub higher_after : (j : ℕ) → at ≤ j → j < length ps → number < number_at ps j

-- a port joins under the next number
abbrev pub with_port : PeerKind → Ipv4Addr → PeersValue → PeersValue
with_port kind address v = record v {
  joined = v.joined + 1;
  opened = v.opened ++ record { number = v.joined; kind = kind; address = address } ∷ [];
}

-- A port of a kind joined under the next number, from an address whose connections are taken, and is open then.
pub record IsJoined (kind : PeerKind) (number : ℕ) (address : Ipv4Addr) (before after : PeersValue) : Type 0 where
  pub admitted : IsAdmitted before.admission before.opened kind address
  pub next : number ≡ before.joined
  pub is : after ≡ with_port kind address before

-- The same from some address.
pub record IsJoinedFeed (number : ℕ) (before after : PeersValue) : Type 0 where
  pub address : Ipv4Addr
  pub joined : IsJoined Feed number address before after

-- By an answer a port joined, or none did.
abbrev pub Admits : (before after : PeersValue) → Result Happening PortFault → Type 0
Admits before after (Ok (Joined number address)) = IsJoined Client number address before after
Admits before after (Ok (JoinedFeed number)) = IsJoinedFeed number before after
Admits before after (Ok (Readable port)) = after ≡ before
Admits before after (Ok (Writable port)) = after ≡ before
Admits before after (Ok Quiet) = after ≡ before
Admits before after (Err fault) = after ≡ before

-- how it is told that a port of a kind joined
abbrev pub happening_of : PeerKind → (number : ℕ) → Ipv4Addr → Happening
happening_of Client number address = Joined number address
happening_of Feed number address = JoinedFeed number

-- A fact of how it is told that a connection joined, if it did; and one if it did not.
abbrev pub IfJoined : Taken → (Happening → Type 0) → Type 0
IfJoined (taken.Joined happening) P = P happening
IfJoined (taken.Away away) P = Unit {0}
IfJoined taken.Nothing P = Unit {0}

abbrev pub IfNotJoined : Taken → Type 0 → Type 0
IfNotJoined (taken.Joined happening) P = Unit {0}
IfNotJoined (taken.Away away) P = P
IfNotJoined taken.Nothing P = P
