-- What is claimed of a client of a server that runs: what its port takes in a whole run, beside what the definitions
-- hand for the events of that run.
-- Left out: that a port takes often enough, and what TCP carries of it.
use Rattle.std.specs.Prelude.{◌≡◌, ℕ, Bool, List, [], ◌∷◌, ◌++◌, flat_map, Option}
use Rattle.protocol.specs.Catalog.{Config, Entry}
use Rattle.protocol.specs.Client.{Taken}
use Rattle.protocol.specs.World.{Handed, empty_world, handed}
use Rattle.protocol.specs.Alone.{KeepsVisible, all_restricted, handed_to, own_view, reloads_accepted, restricted, seen}
use Rattle.server_core.specs.Runs.{MissesNothingThatIsHeld, MissesOnlyOverruns}
use Rattle.ports.specs.Calls.{Call}
use Rattle.event_loop.specs.Loops.{LoopValue}
use Rattle.serving.specs.declared.timetable.Timetable.{Timetable}
use Rattle.serving.specs.Acts.{Act, all_events, all_taken}
use Rattle.serving.specs.Acts.Act.{Turning}
use Rattle.serving.specs.Asked.{Asked}
use Rattle.serving.specs.Runs.{GaveUp, RanSo}
use Rattle.serving.specs.Served.{Begins}

-- A server began with this configuration, when no one had come, and did these acts: between two turns of its run, or
-- when it ended early.
pub data HasDone (F : Type 0) (config : Config) (acts : List Act) : Type 0 where
  so_far : (t : Timetable) (calls : Option (List Call)) (first v : LoopValue) (asked asked' : Option (List (Asked F)))
      (done failures kept : ℕ) → Begins config calls first →
      (x : RanSo t config empty_world first asked done failures kept v asked') → acts ≡ x.acts → HasDone F config acts
  ended_early : (t : Timetable) (calls : Option (List Call)) (first v : LoopValue)
      (asked asked' : Option (List (Asked F))) → Begins config calls first →
      (x : GaveUp t config empty_world first asked v asked') → acts ≡ x.ran.acts ++ Turning x.last.deeds ∷ [] →
      HasDone F config acts

-- the bytes of what was handed
abbrev pub bytes_of : List Taken → List ℕ
bytes_of ts = flat_map (λ t. t.bytes) ts

-- what the definitions hand for the events of a run
abbrev pub handed_for : Config → List Act → List Handed
handed_for config acts = handed config (all_events acts)

-- The port of the k-th client took exactly the bytes that are handed to it there.
abbrev pub TakesWhatIsHanded : Config → List Act → ℕ → Type 0
TakesWhatIsHanded config acts k = all_taken k acts ≡ bytes_of (handed_to k (handed_for config acts))

-- In a run of each of two servers, clients with the same view at their Open, the same events of their own and the same
-- arrivals at stations that they see take the same bytes.
abbrev pub TakesAlike : Type 0 → Type 0
TakesAlike F = (config config' : Config) (acts acts' : List Act) (k k' : ℕ) →
    HasDone F config acts → HasDone F config' acts' →
    own_view config (all_events acts) k ≡ own_view config' (all_events acts') k' →
    seen config (all_events acts) k ≡ seen config' (all_events acts') k' → all_taken k acts ≡ all_taken k' acts'

-- A client's port takes what is handed to the client without stations that are hidden from its address under each
-- configuration in force, by the same events, where the same new configurations are accepted. So in a run of a server
-- without them, with these events, the port takes the same.
abbrev pub TakesAsWithoutHidden : Type 0 → Type 0
TakesAsWithoutHidden F = (config : Config) (acts : List Act) (keep : Entry → Bool) (k : ℕ) → HasDone F config acts →
    KeepsVisible keep config (all_events acts) k →
    reloads_accepted (restricted keep config) (all_restricted keep (all_events acts))
    ≡ reloads_accepted config (all_events acts) →
    (all_taken k acts
    ≡ bytes_of (handed_to k (handed (restricted keep config) (all_restricted keep (all_events acts)))))
    × ((acts' : List Act) → HasDone F (restricted keep config) acts' →
    all_events acts' ≡ all_restricted keep (all_events acts) → all_taken k acts' ≡ all_taken k acts)

-- A transfer of a client misses a record that is wanted only where it was overrun: of what is handed to it, which is
-- what its port takes.
abbrev pub TakesAllButOverruns : Type 0 → Type 0
TakesAllButOverruns F = (config : Config) (acts : List Act) (k : ℕ) → HasDone F config acts →
    TakesWhatIsHanded config acts k × MissesOnlyOverruns config (all_events acts) k (handed_for config acts)

-- A transfer that at each of its offers holds all that may still be chosen and is wanted misses nothing, in the same.
abbrev pub TakesAllThatIsHeld : Type 0 → Type 0
TakesAllThatIsHeld F = (config : Config) (acts : List Act) (k : ℕ) → HasDone F config acts →
    TakesWhatIsHanded config acts k × MissesNothingThatIsHeld config (all_events acts) k (handed_for config acts)
