-- Named stations that are found by their places, and those whose requests may have a record ahead.
use Rattle.std.specs.Prelude.{◌≡◌, ◌≢◌, ◌==◌, ℕ, Bool, true, false, ⊤, List, Some, None, if◌then◌else◌}
use Rattle.std.specs.Prelude.{slice_get}
use Rattle.session_state.specs.declared.choices.Entry.{Entry}
use Rattle.session_state.specs.declared.choices.Ahead.{Ahead}
use Rattle.session_state.specs.declared.choices.Ahead.TheVariants.{Nobody, Only, Several}
use Rattle.session_state.specs.NamedValues.{ahead_of}

-- At the place of each that has an index at its place, that is its own.
abbrev pub IsIndexed : List Entry → List ℕ → Type 0
IsIndexed es indexes = (i k : ℕ) (e : Entry) → slice_get es i ≡ Some e → slice_get indexes e.station ≡ Some k → k ≡ i

-- Of those at a place it is the only one.
pub record IsOnlyAt (es : List Entry) (place i : ℕ) : Type 0 where
  pub entry : Entry
  pub at : slice_get es i ≡ Some entry
  pub there : entry.station ≡ place
  pub only : (j : ℕ) (e : Entry) → slice_get es j ≡ Some e → e.station ≡ place → j ≡ i

-- No request has a record ahead, or none but one, or some may have.
abbrev pub TellsAhead : Ahead → List Entry → Type 0
TellsAhead Nobody es = (j : ℕ) (e : Entry) → slice_get es j ≡ Some e → ahead_of e.cursor ≡ None
TellsAhead (Only i) es = (j : ℕ) (e : Entry) → j ≢ i → slice_get es j ≡ Some e → ahead_of e.cursor ≡ None
TellsAhead Several es = ⊤

-- which may have one once the i-th has another cursor
abbrev pub after_pass : Ahead → ℕ → (has : Bool) → Ahead
after_pass Nobody i true = Only i
after_pass Nobody i false = Nobody
after_pass (Only j) i true = if j == i then Only i else Several
after_pass (Only j) i false = if j == i then Nobody else Only j
after_pass Several i has = Several
