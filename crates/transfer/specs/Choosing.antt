-- What an offer in a transfer leads to.
use Rattle.std.specs.Prelude.{◌≡◌, ℕ, ◌<◌, Bool, true, false, if◌then◌else◌, nat_le, nat_lt, List, length, Option, Some}
use Rattle.std.specs.Prelude.{None, slice_get, ◌++◌}
use Rattle.protocol.specs.Catalog.{Config, Station}
use Rattle.protocol.specs.History.{Arrival, is_over_by}
use Rattle.protocol.specs.Client.{offered}
use Rattle.station_ring.specs.HeldRecords.{RingsValue, IsArrival}
use Rattle.station_ring.specs.Rings.{RingValue, held_at}
use Rattle.catalog.specs.Places.{station_at}
use Rattle.sl_lines.specs.declared.actions.Action.{Action}
use Rattle.session_state.specs.Choices.{action_value, chosen_of}
use Rattle.session_state.specs.NamedValues.{Choice, ahead_of}
use Rattle.session_state.specs.Sessions.{SessionValue, client_in, sent_at}
use Rattle.session_state.specs.declared.session.State.{State}
use Rattle.session_state.specs.declared.session.State.TheVariants.{Transfer}
use Rattle.station_ring.specs.declared.held.Held.{Held}
use Rattle.transfer.specs.declared.choosing.Chosen.{Chosen}
use Rattle.transfer.specs.declared.choosing.Chosen.TheVariants.{Packet, Nothing, Complete}

-- It is a transfer that has started.
abbrev pub is_transfer : State → Bool
is_transfer (Transfer next) = true
is_transfer _ = false

-- by the position that comes next, where one does, and whether all was sent
abbrev pub answer_of : Option ℕ → (complete : Bool) → Chosen
answer_of (Some p) complete = Packet
answer_of None true = Complete
answer_of None false = Nothing

-- Nothing more can come for a named station; a station without an action is no request.
abbrev pub is_over_of : List Arrival → Station → Option Action → Bool
is_over_of h s None = true
is_over_of h s (Some action) = is_over_by s h (action_value action)

-- A held record is an arrival of some station that is there, and has that number.
pub record IsArrived (config : Config) (h : List Arrival) (number : ℕ) (x : Held) : Type 0 where
  pub place : ℕ
  pub is_there : place < length config.entries
  pub arrives : IsArrival (station_at config.entries place) h number x

-- The ring of a station holds a record at a place, and the record's position is that of an arrival.
pub record HoldsThere (rings : RingsValue) (ring : RingValue) (place : ℕ) (item : Held) : Type 0 where
  pub station : ℕ
  pub ring_there : slice_get rings.rings station ≡ Some ring
  pub there : held_at ring place ≡ Some item
  pub before : item.stamp < rings.arrivals

-- The record at the cursor of the named station with that index, in that station's ring: the place is the cursor's, and
-- the cursor tells of a record.
pub record IsAtCursor (rings : RingsValue) (choices : List Choice) (index : ℕ) (ring : RingValue)
    (place : ℕ) : Type 0 where
  pub choice : Choice
  pub at : slice_get choices index ≡ Some choice
  pub ring_there : slice_get rings.rings choice.station ≡ Some ring
  pub place_is : choice.cursor.ring_place ≡ place
  pub stamp : ℕ
  pub ahead : ahead_of choice.cursor ≡ Some stamp

-- the lesser of two positions, where both are there
abbrev pub least_of : Option ℕ → Option ℕ → Option ℕ
least_of None b = b
least_of (Some p) None = Some p
least_of (Some p) (Some q) = if nat_le p q then Some p else Some q

-- Whether a position is less than the one that was found so far, where one was.
abbrev pub comes_before : Option ℕ → ℕ → Bool
comes_before None p = true
comes_before (Some best) p = nat_lt p best

-- The packet that comes next was appended to bytes: with it waiting the session is as an offer leads to.
pub record IsHanded (config : Config) (h : List Arrival) (before after : SessionValue) (out out' : List ℕ)
    : Type 0 where
  pub packet : List ℕ
  pub bytes : out' ≡ out ++ packet
  pub size : length packet ≡ 520
  pub offers : client_in config h (record after { waiting = packet }) ≡ offered h (client_in config h before)

-- So many packets were counted, and all of them for one of the named stations.
pub record IsCounted (count : ℕ) (before after : SessionValue) : Type 0 where
  pub index : ℕ
  pub within : index < length (chosen_of before.mode)
  pub sent : after.packets ≡ sent_at index count before.packets
