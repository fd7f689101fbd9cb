-- What a run of a server is: its turns, and what is asked and told between them.
-- Runs are this project's own. Left out: time.
use Rattle.std.specs.Prelude.{◌≡◌, ℕ, suc, ◌<◌, Bool, true, false, if◌then◌else◌, List, [], ◌∷◌, ◌++◌}
use Rattle.std.specs.Prelude.{length, Option, Some, None, Result, Ok, Err}
use Rattle.protocol.specs.Catalog.{Config, is_same_but_for_access}
use Rattle.protocol.specs.World.{World}
use Rattle.station_ring.specs.Levels.{raises_after}
use Rattle.server_core.specs.ServerValues.{StandsAt}
use Rattle.ports.specs.Calls.{Tells as TellsCalls}
use Rattle.event_loop.specs.declared.turning.Turned.{Turned}
use Rattle.event_loop.specs.Deeds.{refused_more}
use Rattle.event_loop.specs.Hearing.{clients_in, feeds_in}
use Rattle.event_loop.specs.Loops.{LoopValue, TurnMade, TurnFailed}
use Rattle.serving.specs.declared.activity.Activity.{Activity}
use Rattle.serving.specs.declared.between.Due.{Due}
use Rattle.serving.specs.declared.between.Refusal.TheVariants.{Unread, Different, Unkept}
use Rattle.serving.specs.declared.running.Stopped.{Stopped}
use Rattle.serving.specs.declared.timetable.Timetable.{Timetable}
use Rattle.serving.specs.Ahead.{numbers_ahead}
use Rattle.serving.specs.Timetables.{due_after, failures_kept, is_keep_due, is_timed, nothing_due, turns_of}
use Rattle.serving.specs.declared.between.NoConfiguration.{NoConfiguration}
use Rattle.serving.specs.Asked.{Asked, Tells}
use Rattle.serving.specs.Asked.Asked.{Configuration, Keeps, Looks, Refuses, Reports}
use Rattle.serving.specs.Acts.{Act, all_calls, config_then, world_then, HandsThroughout}
use Rattle.serving.specs.Acts.Act.{Turning, Reloading}

-- ---- between two turns

-- what is told of a configuration that was asked for
abbrev pub refusals : {F : Type 0} → Config → Result (Option Config) F → List (Asked F)
refusals config (Err fault) = Refuses (Unread fault) ∷ []
refusals config (Ok None) = []
refusals config (Ok (Some new)) = if is_same_but_for_access config new then [] else Refuses Different ∷ []

-- what comes of it: it is given to the server, where there is another one
abbrev pub reloads : {F : Type 0} → Result (Option Config) F → List Act
reloads (Err fault) = []
reloads (Ok None) = []
reloads (Ok (Some new)) = Reloading new ∷ []

-- The configuration was asked for once, and its answer was done.
pub record Rereads {F : Type 0} (config : Config) (w : World) (v : LoopValue) (asked : Option (List (Asked F)))
    (acts : List Act) (v' : LoopValue) (asked' : Option (List (Asked F))) : Type 0 where
  pub answer : Result (Option Config) F
  pub tells : Tells asked asked' (Configuration answer ∷ refusals config answer)
  pub comes : acts ≡ reloads answer
  pub stands : StandsAt v'.server (config_then config acts) (world_then config w acts)
  pub only : v' ≡ record v { server = v'.server; decided = v'.decided }

-- The same, where it is due.
abbrev pub RereadsIf : {F : Type 0} → Bool → Config → World → LoopValue → Option (List (Asked F)) → List Act
    → LoopValue → Option (List (Asked F)) → Type 0
RereadsIf true config w v asked acts v' asked' = Rereads config w v asked acts v' asked'
RereadsIf false config w v asked acts v' asked' = (acts ≡ []) × (v' ≡ v) × (asked' ≡ asked)

-- With whatever acts, it stands for the world after them.
pub record SomeReread {F : Type 0} (due : Bool) (config : Config) (w : World) (v : LoopValue)
    (asked : Option (List (Asked F))) (v' : LoopValue) (asked' : Option (List (Asked F))) : Type 0 where
  pub acts : List Act
  pub rereads : RereadsIf due config w v asked acts v' asked'
  pub stands : StandsAt v'.server (config_then config acts) (world_then config w acts)

-- what is told of numbers that were to be kept
abbrev pub unkept : {F : Type 0} → Result (Unit {0}) F → List (Asked F)
unkept (Ok done) = []
unkept (Err fault) = Refuses (Unkept fault) ∷ []

-- the levels of the stations when their numbers were kept last: those of now, or the ones from before if they could
-- not be kept now
abbrev pub raises_kept : {F : Type 0} → Result (Unit {0}) F → (kept raises : ℕ) → ℕ
raises_kept (Ok done) kept raises = raises
raises_kept (Err fault) kept raises = kept

-- The numbers of the stations were to be kept once, ahead of those that come next.
pub record KeepsNow {F : Type 0} (config : Config) (w : World) (kept : ℕ) (asked : Option (List (Asked F)))
    (kept' : ℕ) (asked' : Option (List (Asked F))) : Type 0 where
  pub answer : Result (Unit {0}) F
  pub tells : Tells asked asked' (Keeps (numbers_ahead config w.history) answer ∷ unkept answer)
  pub counts : kept' ≡ raises_kept answer kept (raises_after config w.history)

-- The same, where it is due; these were the levels of the stations when their numbers were kept last.
abbrev pub KeepsIf : {F : Type 0} → Bool → Config → World → (kept : ℕ) → Option (List (Asked F)) → (kept' : ℕ)
    → Option (List (Asked F)) → Type 0
KeepsIf true config w kept asked kept' asked' = KeepsNow config w kept asked kept' asked'
KeepsIf false config w kept asked kept' asked' = (kept' ≡ kept) × (asked' ≡ asked)

-- what a server has done so far
abbrev pub activity_of : World → LoopValue → Activity
activity_of w v = record {
  clients = clients_in v.seats;
  feeds = feeds_in v.seats;
  records = length w.history;
  refused = v.refused;
}

-- what is told of it, where that is due
abbrev pub reports_if : {F : Type 0} → Bool → World → LoopValue → List (Asked F)
reports_if due w v = if due then Reports (activity_of w v) ∷ [] else []

-- It was asked what is due by time, if it is to be; else nothing is.
abbrev pub LooksIf : {F : Type 0} → Bool → Option (List (Asked F)) → Due → Option (List (Asked F)) → Type 0
LooksIf true asked by_time asked' = Tells asked asked' (Looks by_time ∷ [])
LooksIf false asked by_time asked' = (by_time ≡ nothing_due) × (asked' ≡ asked)

-- That is due after so many turns.
pub record FindsDue {F : Type 0} (t : Timetable) (done : ℕ) (asked : Option (List (Asked F))) (due : Due)
    (asked' : Option (List (Asked F))) : Type 0 where
  pub by_time : Due
  pub looks : LooksIf (is_timed t) asked by_time asked'
  pub is : due ≡ due_after t done by_time

-- What is due after so many turns was done.
pub record Stops {F : Type 0} (t : Timetable) (done : ℕ) (config : Config) (w : World) (v : LoopValue) (kept : ℕ)
    (asked : Option (List (Asked F))) (acts : List Act) (v' : LoopValue) (kept' : ℕ)
    (asked' : Option (List (Asked F))) : Type 0 where
  pub due : Due
  pub looked : Option (List (Asked F))
  pub first : Option (List (Asked F))
  pub between : Option (List (Asked F))
  pub finds : FindsDue t done asked due looked
  pub keep : KeepsIf (is_keep_due t kept (raises_after config w.history)) config w kept looked kept' first
  pub reread : RereadsIf due.reread config w v first acts v' between
  pub report : Tells between asked' (reports_if due.report (world_then config w acts) v')

pub record SomeStop {F : Type 0} (t : Timetable) (done : ℕ) (config : Config) (w : World) (v : LoopValue) (kept : ℕ)
    (asked : Option (List (Asked F))) (v' : LoopValue) (stop : Stopped) (asked' : Option (List (Asked F)))
    : Type 0 where
  pub acts : List Act
  pub stops : Stops t done config w v kept asked acts v' stop.kept asked'
  pub was : stops.due.reread ≡ stop.reread
  pub stands : StandsAt v'.server (config_then config acts) (world_then config w acts)

-- ---- turns

-- A turn was made, and then none has failed in a row; or it failed, and one more has.
pub data OneTurn (failures failures' : ℕ) (config : Config) (w : World) (v v' : LoopValue) : Type 0 where
  made : (turned : Turned) → failures' ≡ 0 → TurnMade config 64 w v v' turned →
      v'.refused ≡ refused_more v.refused turned.refused → OneTurn failures failures' config w v v'
  not_made : failures' ≡ suc failures → TurnFailed config 64 w v v' → v'.refused ≡ v.refused →
      OneTurn failures failures' config w v v'

-- ---- runs

-- So many turns were made, of which the last so many failed in a row since the configuration was last read again, never
-- sixteen; and after each of them what the timetable says. The levels of the stations, together, were those when their
-- numbers were kept last.
pub data Runs {F : Type 0} (t : Timetable) (config : Config) (w : World) (first : LoopValue)
    (first_asked : Option (List (Asked F)))
    : (done failures kept : ℕ) → List Act → LoopValue → Option (List (Asked F)) → Type 0 where
  begins : Runs t config w first first_asked 0 0 (raises_after config w.history) [] first first_asked
  turned : {done failures kept kept' : ℕ} {acts : List Act} {v v'' : LoopValue}
      {asked asked'' : Option (List (Asked F))}
      (v' : LoopValue) (turned : Turned) (stop : List Act) →
      Runs t config w first first_asked done failures kept acts v asked →
      (x : TurnMade (config_then config acts) 64 (world_then config w acts) v v' turned) →
      v'.refused ≡ refused_more v.refused turned.refused →
      Stops t (suc done) (config_then config (acts ++ Turning x.deeds ∷ []))
      (world_then config w (acts ++ Turning x.deeds ∷ [])) v' kept asked stop v'' kept' asked'' →
      Runs t config w first first_asked (suc done) 0 kept' ((acts ++ Turning x.deeds ∷ []) ++ stop) v'' asked''
  failed : {done failures kept kept' : ℕ} {acts : List Act} {v v'' : LoopValue}
      {asked asked'' : Option (List (Asked F))}
      (v' : LoopValue) (stop : List Act) →
      Runs t config w first first_asked done failures kept acts v asked →
      (x : TurnFailed (config_then config acts) 64 (world_then config w acts) v v') →
      v'.refused ≡ v.refused → suc failures < 16 →
      (s : Stops t (suc done) (config_then config (acts ++ Turning x.deeds ∷ []))
      (world_then config w (acts ++ Turning x.deeds ∷ [])) v' kept asked stop v'' kept' asked'') →
      Runs t config w first first_asked (suc done) (failures_kept s.due.reread (suc failures)) kept'
      ((acts ++ Turning x.deeds ∷ []) ++ stop) v'' asked''

-- A run so far: the calls on ports are its acts', the server stands for the world after it, and each client's port took
-- what a client alone is handed.
pub record RanSo {F : Type 0} (t : Timetable) (config : Config) (w : World) (first : LoopValue)
    (first_asked : Option (List (Asked F))) (done failures kept : ℕ) (v : LoopValue)
    (asked : Option (List (Asked F))) : Type 0 where
  pub acts : List Act
  pub runs : Runs t config w first first_asked done failures kept acts v asked
  pub tells : TellsCalls first.calls v.calls (all_calls acts)
  pub stands : StandsAt v.server (config_then config acts) (world_then config w acts)
  pub isolation : HandsThroughout config w acts

-- All turns were made.
pub record Ran {F : Type 0} (t : Timetable) (config : Config) (w : World) (first : LoopValue)
    (first_asked : Option (List (Asked F))) (v : LoopValue) (asked : Option (List (Asked F))) : Type 0 where
  pub failures : ℕ
  pub kept : ℕ
  pub ran : RanSo t config w first first_asked (turns_of t) failures kept v asked

-- Turns were left, and the last of those that were made was the sixteenth in a row that failed.
pub record GaveUp {F : Type 0} (t : Timetable) (config : Config) (w : World) (first : LoopValue)
    (first_asked : Option (List (Asked F))) (v : LoopValue) (asked : Option (List (Asked F))) : Type 0 where
  pub done : ℕ
  pub some_left : done < turns_of t
  pub kept : ℕ
  pub before : LoopValue
  pub ran : RanSo t config w first first_asked done 15 kept before asked
  pub last : TurnFailed (config_then config ran.acts) 64 (world_then config w ran.acts) before v
  pub refused : v.refused ≡ before.refused
  pub tells : TellsCalls first.calls v.calls (all_calls (ran.acts ++ Turning last.deeds ∷ []))
  pub stands : StandsAt v.server (config_then config (ran.acts ++ Turning last.deeds ∷ []))
      (world_then config w (ran.acts ++ Turning last.deeds ∷ []))
  pub isolation : HandsThroughout config w (ran.acts ++ Turning last.deeds ∷ [])

-- ---- with nothing between the turns

-- so many turns, with no stop between them
abbrev pub block_of : ℕ → Timetable
block_of turns = record { turns = Some turns; reread = None; report = None; keep = false }

-- All turns of a block were made.
abbrev pub RanBlock : ℕ → Config → World → LoopValue → LoopValue → Type 0
RanBlock turns config w first last = Ran {F = NoConfiguration} (block_of turns) config w first None last None

-- Its turns were not all made, and the last sixteen failed.
abbrev pub GaveUpBlock : ℕ → Config → World → LoopValue → LoopValue → Type 0
GaveUpBlock turns config w first last = GaveUp {F = NoConfiguration} (block_of turns) config w first None last None
