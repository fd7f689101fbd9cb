-- How a loop goes on from deed to deed, whatever it is about.
use Rattle.std.specs.Prelude.{◌≡◌, ℕ, suc, Bool, if◌then◌else◌, List, ◌++◌, Option, Some, None}
use Rattle.protocol.specs.Catalog.{Config}
use Rattle.protocol.specs.World.{World}
use Rattle.server_core.specs.ServerValues.{ServerValue, StandsAt}
use Rattle.event_loop.specs.declared.seat.Seat.{Seat}
use Rattle.event_loop.specs.declared.passes.Onward.{Onward}
use Rattle.event_loop.specs.declared.passes.Onward.TheVariants.{On, Stop, Over}
use Rattle.ports.specs.Calls.{Call, Tells}
use Rattle.event_loop.specs.Faithful.{AreFaithful}
use Rattle.event_loop.specs.Deeds.{Deed, Tally, calls_in, tallied, world_beyond}

-- a kind of going on: from a count, a world and a state, by deeds to a world and an outcome
abbrev pub Kind : Type 0 → Type 0 → Type 1
Kind S O = ℕ → World → S → List Deed → World → O → Type 0

-- What is done from here on is, with these deeds before it, one step more from the start.
abbrev pub GoesOn : {S O : Type 0} → Kind S O → Config → World → S → S → List Deed → Type 0
GoesOn {S} {O} R config w s s' deeds = (n : ℕ) (ds : List Deed) (w' : World) (o : O) →
    R n (world_beyond config w deeds) s' ds w' o → R (suc n) w s (deeds ++ ds) w' o

-- These deeds are the last.
abbrev pub Ends : {S O : Type 0} → Kind S O → Config → World → S → List Deed → O → Type 0
Ends {S} {O} R config w s deeds o = (n : ℕ) → R (suc n) w s deeds (world_beyond config w deeds) o

-- what a pass's deeds do from now on, or to its end
abbrev pub Step : Kind Seat (Option Seat) → Config → World → Seat → Seat → List Deed → Onward → Type 0
Step R config w s s' deeds On = GoesOn R config w s s' deeds
Step R config w s s' deeds Stop = Ends R config w s deeds (Some s')
Step R config w s s' deeds Over = Ends R config w s deeds None

-- The calls that were made are these deeds', the server stands for the world after them, the count is theirs, and each
-- write was of all that waited for its client.
pub record Does (config : Config) (w : World) (calls calls' : Option (List Call)) (server' : ServerValue) (t t' : Tally)
    (deeds : List Deed) : Type 0 where
  pub tells : Tells calls calls' (calls_in deeds)
  pub stands : StandsAt server' config (world_beyond config w deeds)
  pub counted : t' ≡ tallied t deeds
  pub faithful : AreFaithful config w deeds

-- One step of a pass was made.
pub record Once (R : Kind Seat (Option Seat)) (config : Config) (w : World) (calls calls' : Option (List Call))
    (server' : ServerValue) (t t' : Tally) (s s' : Seat) (onward : Onward) : Type 0 where
  pub deeds : List Deed
  pub does : Does config w calls calls' server' t t' deeds
  pub how : Step R config w s s' deeds onward

-- So many steps are left.
pub record SoFar {S O : Type 0} (R : Kind S O) (limit left : ℕ) (config : Config) (w : World)
    (calls calls' : Option (List Call))
    (server' : ServerValue) (t t' : Tally) (s s' : S) : Type 0 where
  pub deeds : List Deed
  pub does : Does config w calls calls' server' t t' deeds
  pub how : (ds : List Deed) (w' : World) (o : O) →
      R left (world_beyond config w deeds) s' ds w' o → R limit w s (deeds ++ ds) w' o

-- All was done, with an outcome.
pub record Whole {S O : Type 0} (R : Kind S O) (limit : ℕ) (config : Config) (w : World)
    (calls calls' : Option (List Call))
    (server' : ServerValue) (t t' : Tally) (s : S) (o : O) : Type 0 where
  pub deeds : List Deed
  pub does : Does config w calls calls' server' t t' deeds
  pub how : R limit w s deeds (world_beyond config w deeds) o

-- the seat, if it is still open
abbrev pub if_open : Bool → Seat → Option Seat
if_open stays s = if stays then Some s else None
