-- When a transfer waits for records: nothing that is held is wanted, and more may still come. It goes on waiting
-- whatever arrives at stations that it doesn't ask for. SeedLink 3, DATA, FETCH and TIME.
use Rattle.std.specs.Prelude.{◌≡◌, ℕ, Bool, true, false, find, is_some, List, [], Option, Some, None, slice_get, ℤ}
use Rattle.std.specs.List.{list_any}
use Rattle.station_ring.specs.Rings.{RingValue}
use Rattle.station_ring.specs.HeldRecords.{RingsValue}
use Rattle.sl_lines.specs.declared.actions.Action.{Action}
use Rattle.sl_lines.specs.declared.actions.Action.TheVariants.{Data, Fetch, Time}
use Rattle.session_state.specs.NamedValues.{Choice}
use Rattle.session_state.specs.declared.session.State.TheVariants.{Transfer}
use Rattle.session_state.specs.Choices.{chosen_of}
use Rattle.session_state.specs.Sessions.{SessionValue}
use Rattle.transfer.specs.Wanting.{wants_held}
use Rattle.transfer.specs.Cursors.{IsReached, is_after_end}

-- Nothing that the station's ring holds is wanted, and all of it was passed.
pub record HasNothing (rings : RingsValue) (next : ℕ) (c : Choice) : Type 0 where
  pub reached : IsReached rings c
  pub unwanted : (r : RingValue) → slice_get rings.rings c.station ≡ Some r → is_some c.action ≡ true
      → find (wants_held c next) r.held ≡ None

-- whether a station's ring, where there is one, holds a record that starts after a moment
abbrev pub starts_after : Option RingValue → (begin : Option ℤ) → (last : ℤ) → Bool
starts_after None begin last = false
starts_after (Some r) begin last = list_any (is_after_end (Some (Time begin (Some last)))) r.held

-- whether nothing more can come of a station, by what its ring holds
abbrev pub over_in : Option RingValue → Option Action → Bool
over_in o None = true
over_in o (Some (Data number begin)) = false
over_in o (Some (Fetch number begin)) = true
over_in o (Some (Time begin None)) = false
over_in o (Some (Time begin (Some last))) = starts_after o begin last

-- Something is asked of a station of which more may still come.
pub record MayCome (rings : RingsValue) (c : Choice) : Type 0 where
  pub asked : is_some c.action ≡ true
  pub more : over_in (slice_get rings.rings c.station) c.action ≡ false

-- There is one among these.
pub record MoreMayCome (rings : RingsValue) (choices : List Choice) : Type 0 where
  pub index : ℕ
  pub choice : Choice
  pub there : slice_get choices index ≡ Some choice
  pub may : MayCome rings choice

-- A session in a transfer waits for records.
pub record Sleeps (rings : RingsValue) (s : SessionValue) : Type 0 where
  pub nothing_waits : s.waiting ≡ []
  pub unwanted : (next i : ℕ) (c : Choice) (r : RingValue) → s.state ≡ Transfer next
      → slice_get (chosen_of s.mode) i ≡ Some c →
      slice_get rings.rings c.station ≡ Some r → is_some c.action ≡ true → find (wants_held c next) r.held ≡ None
  pub more : MoreMayCome rings (chosen_of s.mode)
