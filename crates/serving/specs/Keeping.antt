-- That what is kept stays ahead of what is given, at each moment of a run.
use Rattle.std.specs.Prelude.{◌≡◌, ℕ, suc, ◌+◌, ◌%◌, ◌<◌, ◌≤◌, true, List, [], ◌∷◌, ◌++◌, length, slice_index, Option}
use Rattle.std.specs.Prelude.{Some, None, Ok, Err}
use Rattle.protocol.specs.Packet.{numbers}
use Rattle.protocol.specs.Catalog.{Config}
use Rattle.protocol.specs.History.{Arrival}
use Rattle.protocol.specs.World.{Event, World, world_from}
use Rattle.station_ring.specs.HeldRecords.{numbers_after}
use Rattle.event_loop.specs.declared.turning.Turned.{Turned}
use Rattle.event_loop.specs.Deeds.{events_in}
use Rattle.event_loop.specs.Loops.{LoopValue, TurnMade, TurnFailed}
use Rattle.serving.specs.declared.timetable.Timetable.{Timetable}
use Rattle.serving.specs.Ahead.{numbers_ahead, room}
use Rattle.serving.specs.Asked.{Asked}
use Rattle.serving.specs.Asked.Asked.{Configuration, Keeps, Looks, Refuses, Reports}
use Rattle.serving.specs.Acts.{Act, config_then, world_then}
use Rattle.serving.specs.Runs.{Runs}

-- ---- what is kept

-- the numbers that were kept last, and how often they were to be kept since and were not
pub record Kept : Type 0 where
  pub numbers : Option (List ℕ)
  pub fails : ℕ

-- nothing was kept
abbrev pub nothing_kept : Kept
nothing_kept = record { numbers = None; fails = 0 }

-- these numbers were kept
abbrev pub just_kept : List ℕ → Kept
just_kept ns = record { numbers = Some ns; fails = 0 }

-- with one more call
abbrev pub kept_with : {F : Type 0} → Kept → Asked F → Kept
kept_with k (Looks due) = k
kept_with k (Configuration answer) = k
kept_with k (Refuses refusal) = k
kept_with k (Reports activity) = k
kept_with k (Keeps ns (Ok done)) = just_kept ns
kept_with k (Keeps ns (Err fault)) = record k { fails = suc k.fails }

-- with more calls
abbrev pub kept_from : {F : Type 0} → Kept → List (Asked F) → Kept
kept_from k [] = k
kept_from k (c ∷ calls) = kept_from (kept_with k c) calls

-- by all calls
abbrev pub kept_by : {F : Type 0} → List (Asked F) → Kept
kept_by calls = kept_from nothing_kept calls

-- ---- what is ahead

-- A kept number comes after the next one that is given, by so many at least and by the room at most. So no record that
-- came since it was kept has it.
pub record IsAhead (least next kept : ℕ) : Type 0 where
  pub gap : ℕ
  pub some : least ≤ gap
  pub few : gap ≤ room
  pub is : kept ≡ (next + gap) % numbers

-- The same of each station after a history.
pub record AreAhead (least : ℕ) (config : Config) (h : List Arrival) (k : Kept) : Type 0 where
  pub kept : List ℕ
  pub last : k.numbers ≡ Some kept
  pub ahead : (place : ℕ) → place < length config.entries
      → IsAhead least (slice_index (numbers_after config h) place) (slice_index kept place)

-- ---- at each moment

-- These events are the first of a turn that follows, or none.
pub data BeginsTurn (config : Config) (w : World) (v : LoopValue) (events : List Event) : Type 0 where
  no_turn : events ≡ [] → BeginsTurn config w v events
  of_made : (v' : LoopValue) (turned : Turned) (more : List Event) (x : TurnMade config 64 w v v' turned) →
      events_in x.deeds ≡ events ++ more → BeginsTurn config w v events
  of_failed : (v' : LoopValue) (more : List Event) (x : TurnFailed config 64 w v v') →
      events_in x.deeds ≡ events ++ more → BeginsTurn config w v events

-- At each moment of a run the numbers that were kept last are ahead of those that are given, if the first ones were
-- kept before it and no keep failed since the last that succeeded: by one at least during a turn, and by more than the
-- 1,024 records that a turn brings before it begins.
abbrev pub KeepsAhead : Type 0 → Type 0
KeepsAhead F = (t : Timetable) (config : Config) (w : World) (first v : LoopValue)
    (asked asked' : List (Asked F)) (done failures kept : ℕ) (acts : List Act) →
    t.keep ≡ true → kept_by asked ≡ just_kept (numbers_ahead config w.history) →
    Runs t config w first (Some asked) done failures kept acts v (Some asked') →
    (kept_by asked').fails ≡ 0 →
    AreAhead 1025 config (world_then config w acts).history (kept_by asked')
    × ((events : List Event) → BeginsTurn (config_then config acts) (world_then config w acts) v events →
    AreAhead 1 config (world_from (config_then config acts) (world_then config w acts) events).history
    (kept_by asked'))

-- At each stop of a run what was kept last is exactly what is to be kept of each station, by its own records, if the
-- first numbers were kept before it and no keep failed since the last that succeeded.
abbrev pub KeepsExactly : Type 0 → Type 0
KeepsExactly F = (t : Timetable) (config : Config) (w : World) (first v : LoopValue)
    (asked asked' : List (Asked F)) (done failures kept : ℕ) (acts : List Act) →
    t.keep ≡ true → kept_by asked ≡ just_kept (numbers_ahead config w.history) →
    Runs t config w first (Some asked) done failures kept acts v (Some asked') →
    (kept_by asked').fails ≡ 0 →
    (kept_by asked').numbers ≡ Some (numbers_ahead config (world_then config w acts).history)
