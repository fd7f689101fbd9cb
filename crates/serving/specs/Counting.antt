-- How often a configuration is asked for.
use Rattle.std.specs.Prelude.{◌≡◌, ℕ, zero, suc, ◌+◌, Bool, true, false, if◌then◌else◌, List, count_by, Option, Some}
use Rattle.protocol.specs.Catalog.{Config}
use Rattle.protocol.specs.World.{World}
use Rattle.event_loop.specs.Loops.{LoopValue}
use Rattle.text_parts.specs.declared.period.Period.{Period}
use Rattle.serving.specs.declared.timetable.Timetable.{Timetable}
use Rattle.serving.specs.Timetables.{is_due, is_timed, turns_of}
use Rattle.serving.specs.Asked.{Asked}
use Rattle.serving.specs.Asked.Asked.{Configuration, Keeps, Looks, Refuses, Reports}
use Rattle.serving.specs.Runs.{Ran}

-- A call asks for the configuration.
abbrev pub is_ask : {F : Type 0} → Asked F → Bool
is_ask (Looks due) = false
is_ask (Configuration answer) = true
is_ask (Refuses refusal) = false
is_ask (Reports activity) = false
is_ask (Keeps numbers answer) = false

-- how many calls do
abbrev pub asks : {F : Type 0} → List (Asked F) → ℕ
asks calls = count_by is_ask calls

-- after how many of the first so many turns something is due
abbrev pub due_in : Option Period → ℕ → ℕ
due_in period zero = 0
due_in period (suc done) = due_in period done + (if is_due period (suc done) then 1 else 0)

-- In a run of all its turns, of which none goes by time, the configuration is asked for as often as the timetable says.
abbrev pub AsksAsDue : Type 0 → Type 0
AsksAsDue F = (t : Timetable) (config : Config) (w : World) (first last : LoopValue) (asked asked' : List (Asked F)) →
    is_timed t ≡ false → Ran t config w first (Some asked) last (Some asked')
    → asks asked' ≡ asks asked + due_in t.reread (turns_of t)
