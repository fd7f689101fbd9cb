-- How many clients of each address are connected.
-- Ports are this project's own. Left out: which ports the clients have.
use Rattle.std.specs.Prelude.{◌≡◌, ℕ, ◌+◌, ◌<◌, ◌≤◌, ◌==◌, ◌&&◌, Bool, true, false, if◌then◌else◌, List, [], ◌∷◌}
use Rattle.std.specs.Prelude.{count_by, length, slice_index}
use Rattle.std.specs.Net.Addr.{ipv4_bits}
use Rattle.ports_socket.specs.Admissions.{is_client}
use Rattle.ports_socket.specs.declared.peer.Peer.{Peer}

-- All numbers are at least one.
abbrev pub AreFrom : ℕ → List ℕ → Type 0
AreFrom n [] = Unit {0}
AreFrom n (x ∷ xs) = (n ≤ x) × AreFrom n xs

-- The numbers do not fall.
abbrev pub Ascend : List ℕ → Type 0
Ascend [] = Unit {0}
Ascend (x ∷ xs) = AreFrom x xs × Ascend xs

-- Before a place all numbers pass a test, and from it on none does.
pub record Parts (p : ℕ → Bool) (xs : List ℕ) (at : ℕ) : Type 0 where
  pub inside : at ≤ length xs
  pub before : (i : ℕ) → i < at → p (slice_index xs i) ≡ true
  pub after : (i : ℕ) → at ≤ i → i < length xs → p (slice_index xs i) ≡ false

-- how many clients an address has, by the addresses of all clients
abbrev pub clients_of : ℕ → List ℕ → ℕ
clients_of address addresses = count_by (λ other. other == address) addresses

-- one or none
abbrev pub one_if : Bool → ℕ
one_if same = if same then 1 else 0

-- An address has one client more, or one less, and all others have as many as before.
abbrev pub IsCounted : ℕ → List ℕ → List ℕ → Type 0
IsCounted address before after =
    (other : ℕ) → clients_of other after ≡ clients_of other before + one_if (address == other)

abbrev pub IsUncounted : ℕ → List ℕ → List ℕ → Type 0
IsUncounted address before after =
    (other : ℕ) → clients_of other before ≡ clients_of other after + one_if (address == other)

-- a port is a client's of an address, as a number
abbrev pub is_client_of : ℕ → Peer → Bool
is_client_of address peer = is_client peer.kind && (ipv4_bits peer.address == address)

-- Each address has as many clients as there are open ports of its clients.
abbrev pub CountsClients : List ℕ → List Peer → Type 0
CountsClients addresses opened = (address : ℕ) → clients_of address addresses ≡ count_by (is_client_of address) opened

-- A port of those opens, or is shut: where it is a client's, its address has one client more, or one less.
abbrev pub CountsIn : Peer → List ℕ → List ℕ → Type 0
CountsIn peer before after =
    (address : ℕ) → clients_of address after ≡ clients_of address before + one_if (is_client_of address peer)

abbrev pub CountsOut : Peer → List ℕ → List ℕ → Type 0
CountsOut peer before after =
    (address : ℕ) → clients_of address before ≡ clients_of address after + one_if (is_client_of address peer)
