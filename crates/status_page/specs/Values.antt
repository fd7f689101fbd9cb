-- What is told of a server: how each station stands, and which minute was the busiest.
use Rattle.std.specs.Prelude.{ℕ, Bool, true, false, nat_le, nat_lt, max}
use Rattle.std.specs.Prelude.{if◌then◌else◌, List, [], ◌∷◌, Option, Some, None}
use Rattle.std.specs.List.{list_any}
use Rattle.status_page.specs.declared.value.StationState.{StationState}
use Rattle.status_page.specs.declared.value.StationState.TheVariants.{Heard, Waiting, Silent}
use Rattle.status_page.specs.declared.value.StationStatus.{StationStatus}

-- Nothing came for as many seconds as a station may have no record, if there is such a number.
abbrev pub is_over : Option ℕ → (age : ℕ) → Bool
is_over None age = false
is_over (Some seconds) age = nat_le seconds age

abbrev pub is_silent : StationStatus → Bool
is_silent s = is_over s.silent_after s.age

-- That is so of some station.
abbrev pub any_silent : List StationStatus → Bool
any_silent ss = list_any is_silent ss

-- how a station stands: one of which nothing came yet waits until it is silent
abbrev pub state_of : StationStatus → StationState
state_of s = if is_silent s then Silent else if nat_lt 0 s.records then Heard else Waiting

-- It is that state.
abbrev pub is_in : StationState → StationState → Bool
is_in Heard Heard = true
is_in Waiting Waiting = true
is_in Silent Silent = true
is_in _ _ = false

-- the greatest of some numbers and one more
abbrev pub busiest_from : ℕ → List ℕ → ℕ
busiest_from most [] = most
busiest_from most (m ∷ ms) = busiest_from (max most m) ms

-- how many records came in the minute in which most came, but at least 1
abbrev pub busiest : List ℕ → ℕ
busiest minutes = busiest_from 1 minutes
