-- What a server over ports has done once its turns are over.
use Rattle.std.specs.Prelude.{◌≡◌, ℕ, Bool, true, false, List, [], ◌∷◌, Option, None, Ok, Err}
use Rattle.protocol.specs.Catalog.{Config}
use Rattle.protocol.specs.World.{empty_world}
use Rattle.server_core.specs.ServerValues.{StandsAt}
use Rattle.ports.specs.Calls.{Call}
use Rattle.event_loop.specs.Loops.{LoopValue}
use Rattle.serving.specs.declared.timetable.Timetable.{Timetable}
use Rattle.serving.specs.declared.between.NoConfiguration.{NoConfiguration}
use Rattle.serving.specs.Asked.{Asked, Tells}
use Rattle.serving.specs.declared.between.Refusal.TheVariants.{Unkept}
use Rattle.serving.specs.Asked.Asked.{Keeps, Refuses}
use Rattle.serving.specs.Ahead.{numbers_ahead}
use Rattle.serving.specs.Runs.{Ran, GaveUp, block_of}

-- a server that began with this configuration, when no one had come and no port was open
pub record Begins (config : Config) (calls : Option (List Call)) (first : LoopValue) : Type 0 where
  pub stands : StandsAt first.server config empty_world
  pub calls_then : first.calls ≡ calls
  pub no_port : first.seats ≡ []
  pub max_clients : first.max_clients ≡ config.max_connections
  pub none_refused : first.refused ≡ 0

-- If numbers are to be kept, those of the first world were kept once, and nothing else was asked.
abbrev pub KeepsFirst : {F : Type 0} → Bool → Config → (asked asked' : Option (List (Asked F))) → Type 0
KeepsFirst false config asked asked' = asked' ≡ asked
KeepsFirst true config asked asked' = Tells asked asked' (Keeps (numbers_ahead config []) (Ok tt) ∷ [])

-- They could not be kept, which was handed on, and nothing else was asked.
pub record KeptNothing {F : Type 0} (config : Config) (asked asked' : Option (List (Asked F))) : Type 0 where
  pub fault : F
  pub tells : Tells asked asked' (Keeps (numbers_ahead config []) (Err fault) ∷ Refuses (Unkept fault) ∷ [])

-- A server that nobody had come to made all its turns, and first kept its numbers, if they are to be kept.
pub record RanNew {F : Type 0} (t : Timetable) (config : Config) (first : LoopValue)
    (asked : Option (List (Asked F))) (last : LoopValue) (asked' : Option (List (Asked F))) : Type 0 where
  pub asked_first : Option (List (Asked F))
  pub keeps : KeepsFirst t.keep config asked asked_first
  pub ran : Ran t config empty_world first asked_first last asked'

-- The same of one that ended early.
pub record GaveUpNew {F : Type 0} (t : Timetable) (config : Config) (first : LoopValue)
    (asked : Option (List (Asked F))) (last : LoopValue) (asked' : Option (List (Asked F))) : Type 0 where
  pub asked_first : Option (List (Asked F))
  pub keeps : KeepsFirst t.keep config asked asked_first
  pub gave_up : GaveUp t config empty_world first asked_first last asked'

-- It made all its turns.
pub record Served {F : Type 0} (t : Timetable) (config : Config) (calls calls' : Option (List Call))
    (asked asked' : Option (List (Asked F))) : Type 0 where
  pub first : LoopValue
  pub last : LoopValue
  pub begins : Begins config calls first
  pub ran : RanNew t config first asked last asked'
  pub calls_after : last.calls ≡ calls'

-- It ended early.
pub record Ended {F : Type 0} (t : Timetable) (config : Config) (calls : Option (List Call))
    (asked asked' : Option (List (Asked F))) : Type 0 where
  pub first : LoopValue
  pub last : LoopValue
  pub begins : Begins config calls first
  pub gave_up : GaveUpNew t config first asked last asked'

-- The same with nothing between its turns.
abbrev pub ServedBlock : ℕ → Config → Option (List Call) → Option (List Call) → Type 0
ServedBlock turns config calls calls' = Served {F = NoConfiguration} (block_of turns) config calls calls' None None

abbrev pub EndedBlock : ℕ → Config → Option (List Call) → Type 0
EndedBlock turns config calls = Ended {F = NoConfiguration} (block_of turns) config calls None None
