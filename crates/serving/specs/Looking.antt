-- When a configuration is asked for, by what is said to be due by time.
use Rattle.std.specs.Prelude.{◌≡◌, ℕ, Bool, true, false, List, [], ◌∷◌, ◌++◌, length, map, Some}
use Rattle.protocol.specs.Catalog.{Config}
use Rattle.protocol.specs.World.{World}
use Rattle.event_loop.specs.Loops.{LoopValue}
use Rattle.serving.specs.declared.between.Due.{Due}
use Rattle.serving.specs.declared.timetable.Timetable.{Timetable}
use Rattle.serving.specs.Timetables.{is_by_turns, is_timed, turns_of}
use Rattle.serving.specs.Asked.{Asked}
use Rattle.serving.specs.Asked.Asked.{Configuration, Keeps, Looks, Refuses, Reports}
use Rattle.serving.specs.Runs.{Ran}

-- what was said to be due, at each look
abbrev pub looks : {F : Type 0} → List (Asked F) → List Due
looks [] = []
looks (Looks due ∷ calls) = due ∷ looks calls
looks (Configuration answer ∷ calls) = looks calls
looks (Refuses refusal ∷ calls) = looks calls
looks (Reports activity ∷ calls) = looks calls
looks (Keeps numbers answer ∷ calls) = looks calls

-- the configuration is asked for before the next look
abbrev pub asks_first : {F : Type 0} → List (Asked F) → Bool
asks_first [] = false
asks_first (Looks due ∷ calls) = false
asks_first (Configuration answer ∷ calls) = true
asks_first (Refuses refusal ∷ calls) = asks_first calls
asks_first (Reports activity ∷ calls) = asks_first calls
asks_first (Keeps numbers answer ∷ calls) = asks_first calls

-- after which looks it is asked for, before the next one
abbrev pub rereads : {F : Type 0} → List (Asked F) → List Bool
rereads [] = []
rereads (Looks due ∷ calls) = asks_first calls ∷ rereads calls
rereads (Configuration answer ∷ calls) = rereads calls
rereads (Refuses refusal ∷ calls) = rereads calls
rereads (Reports activity ∷ calls) = rereads calls
rereads (Keeps numbers answer ∷ calls) = rereads calls

-- With each turn there is one look, and the configuration is asked for after exactly those looks that say so.
pub record AsksByLooks {F : Type 0} (turns : ℕ) (new : List (Asked F)) : Type 0 where
  pub each_turn : length (looks new) ≡ turns
  pub as_said : rereads new ≡ map (λ due. due.reread) (looks new)

-- The calls after those before are so.
pub record AddsLooks {F : Type 0} (turns : ℕ) (asked asked' : List (Asked F)) : Type 0 where
  pub new : List (Asked F)
  pub is : asked' ≡ asked ++ new
  pub as_said : AsksByLooks turns new

-- In a run of all its turns that asks what is due by time, and does not reread by turns, it is so.
abbrev pub AsksByTime : Type 0 → Type 0
AsksByTime F = (t : Timetable) (config : Config) (w : World) (first last : LoopValue)
    (asked asked' : List (Asked F)) → is_timed t ≡ true → is_by_turns t.reread ≡ false
    → Ran t config w first (Some asked) last (Some asked') → AddsLooks (turns_of t) asked asked'
