-- What is handed to a client's port once the client was offered something.
-- The loop is this project's own.
use Rattle.std.specs.Prelude.{◌≡◌, ℕ, ◌+◌, ◌<◌, ◌≤◌, List, [], ◌∷◌, ◌++◌, length, map, Option, Result, Ok, ⊤}
use Rattle.protocol.specs.Catalog.{Config}
use Rattle.protocol.specs.World.{World}
use Rattle.server_core.specs.declared.client.Gone.{Gone}
use Rattle.server_core.specs.declared.client.Offer.{Offer}
use Rattle.server_core.specs.declared.client.Offer.TheVariants.{Bytes}
use Rattle.server_core.specs.declared.client.Filled.{Filled}
use Rattle.server_core.specs.Filling.{Fills, IsOffered}
use Rattle.server_core.specs.ServerValues.{ServerValue}
use Rattle.ports.specs.Calls.{Call, Tells, whole_write}
use Rattle.ports.specs.Calls.Call.{Write}
use Rattle.ports.specs.declared.answers.Put.TheVariants.{Took as TookPut}
use Rattle.event_loop.specs.declared.seat.Seat.{Seat}
use Rattle.event_loop.specs.declared.passes.Handing.{Handing}
use Rattle.event_loop.specs.declared.passes.Handing.TheVariants.{Took, Stopped, Closed}
use Rattle.event_loop.specs.declared.passes.Next.{Next}
use Rattle.event_loop.specs.declared.passes.Next.TheVariants.{Write as WriteNext, Stop as StopNext, Over as OverNext}
use Rattle.event_loop.specs.declared.passes.Onward.TheVariants.{Stop, Over}
use Rattle.event_loop.specs.Deeds.{Deed, Tally, calls_in, tallied, world_beyond}
use Rattle.event_loop.specs.Faithful.{AreFaithful}
use Rattle.event_loop.specs.Going.{Once}
use Rattle.event_loop.specs.Passes.{ClientWrites, MayWrite}

-- Whole pieces were handed one after the other, and this was found after them.
pub record HandsPieces (config : Config) (w : World) (k port : ℕ) (a b : Option (List Call)) (filled : Filled)
    (server' : ServerValue) : Type 0 where
  pub pieces : List (List ℕ)
  pub beyond : World
  pub fills : Fills config k w pieces beyond
  pub offers : IsOffered config beyond k filled.found server'
  pub count : length pieces ≡ filled.count
  pub tells : Tells a b (map (whole_write port) pieces)

-- The port took the first of the bytes that wait.
pub record HandsSome (w : World) (k : ℕ) (a b : Option (List Call)) (s : Seat) (found : Result Offer Gone)
    (count : ℕ) : Type 0 where
  pub bytes : List ℕ
  pub may : MayWrite w k s bytes
  pub is : found ≡ Ok Bytes
  pub some : 0 < count
  pub fits : count ≤ length bytes
  pub tells : Tells a b (Write s.port bytes (Ok (TookPut count)) ∷ [])

-- What came of it.
abbrev pub Hands : Config → ℕ → World → (a b : Option (List Call)) → ServerValue → Tally → (s s' : Seat)
    → (found : Result Offer Gone) → Handing → Type 0
Hands config k w a b server' t s s' found (Took count) = HandsSome w k a b s found count
Hands config k w a b server' t s s' found Stopped = Once (ClientWrites config k) config w a b server' t t s s' Stop
Hands config k w a b server' t s s' found Closed = Once (ClientWrites config k) config w a b server' t t s s' Over

-- The port took some bytes, and this is true then.
abbrev pub IfTook : Handing → (ℕ → Type 0) → Type 0
IfTook (Took count) P = P count
IfTook Stopped P = ⊤
IfTook Closed P = ⊤

-- Another write follows, and this is true of how many were made.
abbrev pub IfWrites : Next → (ℕ → Type 0) → Type 0
IfWrites (WriteNext found made) P = P made
IfWrites StopNext P = ⊤
IfWrites OverNext P = ⊤

-- So many writes of a pass were made, and the client was offered something after them.
pub record OnceOffered (config : Config) (k : ℕ) (w : World) (a b : Option (List Call)) (server' : ServerValue)
    (t : Tally) (s s' : Seat) (found : Result Offer Gone) (made : ℕ) : Type 0 where
  pub deeds : List Deed
  pub tells : Tells a b (calls_in deeds)
  pub offers : IsOffered config (world_beyond config w deeds) k found server'
  pub counted : t ≡ tallied t deeds
  pub faithful : AreFaithful config w deeds
  pub how : (n : ℕ) (ds : List Deed) (w' : World) (o : Option Seat)
      → ClientWrites config k n (world_beyond config w deeds) s' ds w' o
      → ClientWrites config k (n + made) w s (deeds ++ ds) w' o

-- Writes, by how the pass goes on.
abbrev pub WritesOn : Config → ℕ → World → (a b : Option (List Call)) → ServerValue → Tally → (s s' : Seat) → Next
    → Type 0
WritesOn config k w a b server' t s s' (WriteNext found made) = OnceOffered config k w a b server' t s s' found made
WritesOn config k w a b server' t s s' StopNext = Once (ClientWrites config k) config w a b server' t t s s' Stop
WritesOn config k w a b server' t s s' OverNext = Once (ClientWrites config k) config w a b server' t t s s' Over

-- So many writes are left, of which the first is of what the client was offered.
pub record SoFarOffered (config : Config) (k limit left : ℕ) (w : World) (a b : Option (List Call))
    (server' : ServerValue) (t : Tally) (s s' : Seat) (found : Result Offer Gone) : Type 0 where
  pub deeds : List Deed
  pub tells : Tells a b (calls_in deeds)
  pub offers : IsOffered config (world_beyond config w deeds) k found server'
  pub counted : t ≡ tallied t deeds
  pub faithful : AreFaithful config w deeds
  pub how : (ds : List Deed) (w' : World) (o : Option Seat)
      → ClientWrites config k left (world_beyond config w deeds) s' ds w' o
      → ClientWrites config k limit w s (deeds ++ ds) w' o
