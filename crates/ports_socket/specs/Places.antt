-- Where connections are kept: each under a key, and the open ones with their keys in a list by rising number.
-- Ports are this project's own. Left out: under which token the system knows a connection.
use Rattle.std.specs.Prelude.{◌≡◌, ◌≢◌, ◌⊎◌, ℕ, ◌<◌, true, false, List, [], ◌∷◌, map, length, slice_index}
use Rattle.std.specs.Prelude.{Option, Some, None}
use Rattle.slab.specs.Slab.{Slab, get}
use Rattle.ports_socket.specs.declared.connection.Connection.{Connection}
use Rattle.ports_socket.specs.declared.connections.ConnectionPlace.{ConnectionPlace}
use Rattle.ports_socket.specs.declared.kept_connection.KeptConnection.{KeptConnection}

-- All numbers are above one.
abbrev pub AreAbove : ℕ → List ℕ → Type 0
AreAbove n [] = Unit {0}
AreAbove n (m ∷ ms) = (n < m) × AreAbove n ms

-- The numbers rise.
abbrev pub Rise : List ℕ → Type 0
Rise [] = Unit {0}
Rise (m ∷ ms) = AreAbove m ms × Rise ms

-- All numbers are below one.
abbrev pub AreBelow : ℕ → List ℕ → Type 0
AreBelow n numbers = (j : ℕ) → j < length numbers → slice_index numbers j < n

-- None of the numbers is that one.
abbrev pub AreOthers : ℕ → List ℕ → Type 0
AreOthers n numbers = (j : ℕ) → j < length numbers → slice_index numbers j ≢ n

-- A number is at a place among some.
pub record IsPlaceOf (number : ℕ) (numbers : List ℕ) (at : ℕ) : Type 0 where
  pub inside : at < length numbers
  pub has_number : slice_index numbers at ≡ number

-- the numbers of the open connections
abbrev pub numbers_of : List ConnectionPlace → List ℕ
numbers_of places = map (λ p. p.number) places

-- the open connections, by what is kept under their keys
abbrev pub with_held : Option KeptConnection → List Connection → List Connection
with_held None cs = cs
with_held (Some held) cs = held.connection ∷ cs

abbrev pub connections_at : Slab KeptConnection → List ConnectionPlace → List Connection
connections_at slots [] = []
connections_at slots (p ∷ ps) = with_held (get slots p.key) (connections_at slots ps)

-- what is kept, but not open any more
abbrev pub closed_from : Option KeptConnection → Option KeptConnection
closed_from None = None
closed_from (Some held) = Some (record held { is_open = false })

-- Under the key of a place an open connection with its number is kept.
pub record IsThere (slots : Slab KeptConnection) (place : ConnectionPlace) : Type 0 where
  pub held : KeptConnection
  pub kept : get slots place.key ≡ Some held
  pub opened : held.is_open ≡ true
  pub number : held.connection.number ≡ place.number

abbrev pub AreThere : Slab KeptConnection → List ConnectionPlace → Type 0
AreThere slots [] = Unit {0}
AreThere slots (p ∷ ps) = IsThere slots p × AreThere slots ps

-- A place is among some.
abbrev pub IsAmong : ConnectionPlace → List ConnectionPlace → Type 0
IsAmong place [] = ⊥
IsAmong place (p ∷ ps) = (p ≡ place) ⊎ IsAmong place ps

-- By rising number a list has the places of all open connections, and no others.
pub record IsTable (slots : Slab KeptConnection) (places : List ConnectionPlace) : Type 0 where
  pub rise : Rise (numbers_of places)
  pub there : AreThere slots places
  pub listed : (key : ℕ) (held : KeptConnection) → get slots key ≡ Some held → held.is_open ≡ true
      → IsAmong (record { number = held.connection.number; key = key }) places
