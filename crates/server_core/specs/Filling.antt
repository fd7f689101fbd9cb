-- What a client is offered, and packets that are handed to it one after the other.
-- This project's own.
use Rattle.std.specs.Prelude.{◌≡◌, ℕ, ◌<◌, List, [], ◌∷◌, ◌++◌, length, slice_get, Option, unwrap_or, option_map}
use Rattle.std.specs.Prelude.{All, Result}
use Rattle.std.specs.List.{concat}
use Rattle.std.specs.Result.{result_ok}
use Rattle.protocol.specs.Catalog.{Config}
use Rattle.protocol.specs.Client.{Client, offered}
use Rattle.protocol.specs.World.{World, client_of, step}
use Rattle.protocol.specs.World.Event.{Take}
use Rattle.server_core.specs.declared.client.Filled.{Filled}
use Rattle.server_core.specs.declared.client.Gone.{Gone}
use Rattle.server_core.specs.declared.client.Offer.{Offer}
use Rattle.server_core.specs.Refusals.{offer_of}
use Rattle.server_core.specs.ServerValues.{ServerValue, StandsAt}

-- the k-th client, where it is open
abbrev pub client_at : World → ℕ → Option Client
client_at w k = client_of (slice_get w.connections k)

-- what waits for the k-th client once it is offered something
abbrev pub lent_to : World → ℕ → List ℕ
lent_to w k = unwrap_or (option_map (λ c. (offered w.history c).waiting) (client_at w k)) []

-- The client was offered something at a world, and this was found.
pub record IsOffered (config : Config) (w : World) (k : ℕ) (found : Result Offer Gone)
    (server : ServerValue) : Type 0 where
  pub stands : StandsAt server config (step config w (Take k 0))
  pub answer : result_ok found ≡ option_map (λ c. offer_of (offered w.history c)) (client_at w k)

-- Packets were handed one after the other: each was all that waited once the client was offered something, and all of
-- it was taken.
pub data Fills (config : Config) (k : ℕ) : World → List (List ℕ) → World → Type 0 where
  none : {w : World} → Fills config k w [] w
  more : {w w' : World} {rest : List (List ℕ)} (bytes : List ℕ) → 0 < length bytes → lent_to w k ≡ bytes →
      Fills config k (step config w (Take k (length bytes))) rest w' → Fills config k w (bytes ∷ rest) w'

-- A client that was offered something was handed packets, and was offered what comes next.
pub record IsFilled (config : Config) (w : World) (k : ℕ) (out out' : List ℕ) (filled : Filled)
    (server' : ServerValue) : Type 0 where
  pub pieces : List (List ℕ)
  pub beyond : World
  pub fills : Fills config k w pieces beyond
  pub offers : IsOffered config beyond k filled.found server'
  pub bytes : out' ≡ out ++ concat pieces
  pub sizes : All (λ p. length p ≡ 520) pieces
  pub count : length pieces ≡ filled.count
