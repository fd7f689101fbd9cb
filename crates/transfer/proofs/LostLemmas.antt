-- How many records a session lost once a request has looked at its ring.
use Rattle.std.proofs.Common.{◌≡◌, ℕ, ◌∙◌, Option, Some, None, refl, sym, ap}
use Rattle.sl_lines.specs.declared.actions.Action.{Action}
use Rattle.session_state.specs.Sessions.{SessionValue}
use Rattle.session_state.specs.declared.choices.Cursor.{Cursor}
use Rattle.station_ring.specs.Rings.{RingValue}
use Rattle.transfer.specs.Cursors.{lost_in, with_lost}

-- A named station that is asked for nothing loses nothing, nor does one without a ring.
pub nothing-asked : (s : SessionValue) (r : Option RingValue) (action : Option Action) (cursor : Cursor) → action ≡ None
    → s ≡ with_lost s (lost_in r action cursor)
nothing-asked s r action cursor none = sym (ap (λ a. with_lost s (lost_in r a cursor)) none ∙ unasked r)
  where
    unasked : (r : Option RingValue) → with_lost s (lost_in r None cursor) ≡ s
    unasked None = refl
    unasked (Some r) = refl

pub nowhere-lost : (s : SessionValue) (r : Option RingValue) (action : Option Action) (cursor : Cursor) → r ≡ None
    → s ≡ with_lost s (lost_in r action cursor)
nowhere-lost s r action cursor none = sym (ap (λ o. with_lost s (lost_in o action cursor)) none)
