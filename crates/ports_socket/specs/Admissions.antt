-- Whose connections are taken.
-- A list of addresses is that of seedlink's `access`. Left out: connections that the system refuses.
use Rattle.std.specs.Prelude.{◌≡◌, ℕ, ◌==◌, ◌<◌, ◌&&◌, Bool, true, false, List, Option, Some, None}
use Rattle.std.specs.List.{count_by}
use Rattle.std.specs.Net.Addr.{ipv4_bits}
use Rattle.std.specs.declared.net.ipv4_addr.Ipv4Addr.{Ipv4Addr}
use Rattle.protocol.specs.Access.{Token, allows}
use Rattle.ports_socket.specs.declared.admission.Admission.{Admission}
use Rattle.ports_socket.specs.declared.peer.PeerKind.{PeerKind}
use Rattle.ports_socket.specs.declared.peer.PeerKind.TheVariants.{Client, Feed}
use Rattle.ports_socket.specs.declared.peer.Peer.{Peer}

-- Feeds are taken from an address: there is no list, or the list allows it.
abbrev pub IsFeeder : Option (List Token) → Ipv4Addr → Type 0
IsFeeder None address = Unit {0}
IsFeeder (Some list) address = allows list (ipv4_bits address) ≡ true

-- a port is a client's of an address
abbrev pub is_client : PeerKind → Bool
is_client Client = true
is_client Feed = false

abbrev pub is_client_at : Ipv4Addr → Peer → Bool
is_client_at address peer = is_client peer.kind && (ipv4_bits peer.address == ipv4_bits address)

-- how many clients of an address are among open ports
abbrev pub clients_at : List Peer → Ipv4Addr → ℕ
clients_at opened address = count_by (is_client_at address) opened

-- Clients are taken from an address: any number of them is, or fewer are connected than may be.
abbrev pub HasPlace : Option ℕ → List Peer → Ipv4Addr → Type 0
HasPlace None opened address = Unit {0}
HasPlace (Some most) opened address = clients_at opened address < most

-- There may be any number, or there are fewer than there may be.
abbrev pub IsFewer : Option ℕ → ℕ → Type 0
IsFewer None clients = Unit {0}
IsFewer (Some most) clients = clients < most

-- A connection from an address is taken while those ports are open.
abbrev pub IsAdmitted : Admission → List Peer → PeerKind → Ipv4Addr → Type 0
IsAdmitted admission opened Client address = HasPlace admission.per_address opened address
IsAdmitted admission opened Feed address = IsFeeder admission.feed_from address
