-- The open clients of a server: their numbers, and the slots in which their sessions are. A slot is used again, a
-- number never. This project's own.
use Rattle.std.specs.Prelude.{◌≡◌, ℕ, ◌<◌, ◌==◌, if◌then◌else◌, List, [], ◌∷◌, map, length, Option, Some, None, IsSome}
use Rattle.std.specs.Prelude.{slice_index_or}
use Rattle.std.specs.List.{range_with_len}
use Rattle.std.specs.Net.Addr.{ipv4_bits}
use Rattle.slab.specs.Slab.{Slab, get}
use Rattle.session_state.specs.Sessions.{SessionValue}
use Rattle.server_core.specs.declared.clients.Opened.{Opened}
use Rattle.server_core.specs.declared.clients.Clients.{Clients}

-- the slot of a number, where its client is open
abbrev pub slot_in : List Opened → ℕ → Option ℕ
slot_in [] k = None
slot_in (o ∷ os) k = if o.number == k then Some o.slot else slot_in os k

-- the address of a number, where its client is open
abbrev pub address_in : List Opened → ℕ → Option ℕ
address_in [] k = None
address_in (o ∷ os) k = if o.number == k then Some (ipv4_bits o.address) else address_in os k

-- the session in a slot
abbrev pub in_slot : Slab SessionValue → Option ℕ → Option SessionValue
in_slot slots None = None
in_slot slots (Some slot) = get slots slot

-- the session of a number, while its client is open
abbrev pub session_of : List Opened → Slab SessionValue → ℕ → Option SessionValue
session_of os slots k = in_slot slots (slot_in os k)

-- the sessions of all clients that ever opened
unfoldable pub sessions_of : Clients → List (Option SessionValue)
sessions_of c = map (session_of c.opened.items c.slots) (range_with_len 0 c.opens)

-- the addresses of all clients that ever opened, while they are open
unfoldable pub addresses_of : Clients → List (Option ℕ)
addresses_of c = map (address_in c.opened.items) (range_with_len 0 c.opens)

-- All numbers are above one.
abbrev pub AreAbove : ℕ → List Opened → Type 0
AreAbove n [] = Unit {0}
AreAbove n (o ∷ os) = (n < o.number) × AreAbove n os

-- All numbers are below one.
abbrev pub AreBelow : ℕ → List Opened → Type 0
AreBelow n [] = Unit {0}
AreBelow n (o ∷ os) = (o.number < n) × AreBelow n os

-- The numbers rise.
abbrev pub AreRising : List Opened → Type 0
AreRising [] = Unit {0}
AreRising (o ∷ os) = AreAbove o.number os × AreRising os

-- an entry where there is none
abbrev pub no_one : Opened
no_one = record { number = 0; slot = 0; address = record { octets = 0 ∷ 0 ∷ 0 ∷ 0 ∷ [] } }

-- the number at a place
abbrev pub number_at : List Opened → ℕ → ℕ
number_at os i = let o : Opened = slice_index_or os i no_one in o.number

-- The open client of a number is at a place.
pub record IsNumberAt (os : List Opened) (number at : ℕ) : Type 0 where
  pub inside : at < length os
  pub has_number : number_at os at ≡ number

-- No two numbers have one slot.
abbrev pub AreApart : List Opened → Type 0
AreApart os = (j k slot : ℕ) → slot_in os j ≡ Some slot → slot_in os k ≡ Some slot → j ≡ k

-- the client whose session is in a slot, if there is one
abbrev pub owner_in : List (Option ℕ) → ℕ → Option ℕ
owner_in numbers slot = slice_index_or numbers slot None

-- a client, if there is one, as a list
abbrev pub listed : Option ℕ → List ℕ
listed None = []
listed (Some k) = k ∷ []

-- Numbers rise, each below the next one that is given; each has a slot of its own, in which a session is; and a number
-- stands at a slot exactly if that is its client's.
pub record IsTable (c : Clients) : Type 0 where
  pub rising : AreRising c.opened.items
  pub below : AreBelow c.opens c.opened.items
  pub apart : AreApart c.opened.items
  pub there : (k slot : ℕ) → slot_in c.opened.items k ≡ Some slot → IsSome (get c.slots slot)
  pub numbered : (k slot : ℕ) → slot_in c.opened.items k ≡ Some slot → owner_in c.numbers.items slot ≡ Some k
  pub owned : (k slot : ℕ) → owner_in c.numbers.items slot ≡ Some k → slot_in c.opened.items k ≡ Some slot
