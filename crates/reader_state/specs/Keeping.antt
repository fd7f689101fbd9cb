-- What a place tells once a state was kept there.
use Rattle.std.specs.Prelude.{◌≡◌, ℕ, List, Option, None, Some}
use Rattle.continued_files.specs.Lengths.{LengthValue}
use Rattle.slreader.specs.Tallies.{TallyValue}
use Rattle.slreader.specs.Wants.{WantValue}
use Rattle.reader_state.specs.States.{IsState, StateValue, lasts_after, state_text}

-- the lengths that are kept: those of the files that are written, or those that were kept before if none are
abbrev pub files_after : Option (List LengthValue) → List LengthValue → List LengthValue
files_after (Some files) before = files
files_after None before = before

-- what is kept after a state
abbrev pub state_after : StateValue → TallyValue → List WantValue → Option (List LengthValue) → StateValue
state_after before t wants files =
    record { lasts = lasts_after t wants before.lasts; files = files_after files before.files }

-- A place that tells its text has that of what is kept after the state that it had.
abbrev pub KeepsState : Option (List ℕ) → Option (List ℕ) → TallyValue → List WantValue → Option (List LengthValue)
    → Type 0
KeepsState old new t wants files = (text : List ℕ) → old ≡ Some text →
    (before : StateValue) × ((s : StateValue) → IsState s → text ≡ state_text s → before ≡ s)
    × (new ≡ Some (state_text (state_after before t wants files)))
