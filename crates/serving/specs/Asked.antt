-- What a server asks and tells between its turns, with the answers.
use Rattle.std.specs.Prelude.{◌≡◌, ℕ, List, ◌++◌, Option, Some, None, Result}
use Rattle.protocol.specs.Catalog.{Config}
use Rattle.serving.specs.declared.activity.Activity.{Activity}
use Rattle.serving.specs.declared.between.Due.{Due}
use Rattle.serving.specs.declared.between.Refusal.{Refusal}

-- a call with its answer
pub data Asked (F : Type 0) : Type 0 where
  -- what is due by time
  Looks : Due → Asked F
  -- the configuration as it is now; nothing if it is as it was when it came into force last
  Configuration : Result (Option Config) F → Asked F
  Refuses : Refusal F → Asked F
  Reports : Activity → Asked F
  -- the numbers of the stations, in order, are to be kept
  Keeps : List ℕ → Result (Unit {0}) F → Asked F

-- Those calls were made between the two, where they are told after it.
abbrev pub Tells : {F : Type 0} → Option (List (Asked F)) → Option (List (Asked F)) → List (Asked F) → Type 0
Tells old None calls = Unit {0}
Tells (Some before) (Some after) calls = after ≡ before ++ calls
Tells None (Some after) calls = ⊥
