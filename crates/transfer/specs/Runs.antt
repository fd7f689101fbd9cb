-- Packets that are handed in one run: those of records that one request wants, with none of another request between.
-- This project's own.
use Rattle.std.specs.Prelude.{◌≡◌, ℕ, ◌+◌, ◌≤◌, true, List, [], filter_map, slice_get, Some}
use Rattle.protocol.specs.Catalog.{Config}
use Rattle.protocol.specs.History.{Arrival, next}
use Rattle.protocol.specs.Pattern.{passes}
use Rattle.catalog.specs.Places.{HasDistinctCodes}
use Rattle.station_ring.specs.declared.held.Held.{Held}
use Rattle.station_ring.specs.HeldRecords.{RingsValue, holdings_of}
use Rattle.station_ring.specs.Rings.{RingValue, IsRing}
use Rattle.sl_lines.specs.declared.actions.Action.{Action}
use Rattle.session_state.specs.NamedValues.{Choice}
use Rattle.session_state.specs.Choices.{chosen_of, request_in}
use Rattle.session_state.specs.Sessions.{SessionValue}
use Rattle.session_state.specs.declared.session.State.{State}
use Rattle.session_state.specs.declared.session.State.TheVariants.{Transfer}
use Rattle.transfer.specs.Choosing.{IsHanded, is_transfer}
use Rattle.transfer.specs.Cursors.{HasPassed, OfAll, RestsIn}
use Rattle.transfer.specs.Searches.{at_place}
use Rattle.transfer.specs.Wanting.{facts_of}

-- So many packets of a session were appended to bytes one after the other. Each is what an offer would have made wait,
-- and the next one is that of the session as it is once all of that was taken: only its state changes.
pub data AreHanded (config : Config) (h : List Arrival) (s : SessionValue) (out : List ℕ)
    : State → ℕ → List ℕ → Type 0 where
  none : AreHanded config h s out s.state 0 out
  more : (before after : State) (n : ℕ) (mid last : List ℕ) → AreHanded config h s out before n mid →
      is_transfer after ≡ true →
      IsHanded config h (record s { state = before }) (record s { state = after }) mid last →
      AreHanded config h s out after (n + 1) last

-- The records that a request wants, from its cursor to the one at a place of its ring, were sent, and it wanted that
-- one: it has passed all of them.
pub record HasSent (rings : RingsValue) (choices : List Choice) (index : ℕ) (ring : RingValue) (place : ℕ)
    (item : Held) : Type 0 where
  pub choice : Choice
  pub action : Action
  pub at : slice_get choices index ≡ Some choice
  pub asked : choice.action ≡ Some action
  pub ring_there : slice_get rings.rings choice.station ≡ Some ring
  pub holding : IsRing ring
  pub is_passing : passes choice.patterns (facts_of item.summary) ≡ true
  pub passed : HasPassed ring (item.stamp + 1) choice (at_place (place + 1) choice.cursor.ended)

-- So many packets were appended to bytes. The first of them is of the record with that stamp, which comes next where
-- all requests rest; the last one is of the record at a place of the ring of the request with that index.
pub record IsRun (rings : RingsValue) (choices : List Choice) (index : ℕ) (ring : RingValue) (stamp : ℕ) (out : List ℕ)
    (place : ℕ) (item : Held) (count : ℕ) (out' : List ℕ) : Type 0 where
  pub sent : (q : ℕ) → q ≤ stamp → OfAll (RestsIn rings q) choices → HasSent rings choices index ring place item
  pub late : (q : ℕ) → q ≤ stamp → OfAll (RestsIn rings q) choices → stamp ≤ item.stamp
  pub handed : (q : ℕ) → q ≤ stamp → OfAll (RestsIn rings q) choices → (config : Config) (h : List Arrival)
      → rings ≡ holdings_of config h → HasDistinctCodes config.entries
      → Some stamp ≡ next h (filter_map (request_in config) choices) q → (s : SessionValue) → s.state ≡ Transfer q
      → s.waiting ≡ []
      → filter_map (request_in config) (chosen_of s.mode) ≡ filter_map (request_in config) choices
      → AreHanded config h s out (Transfer (item.stamp + 1)) count out'
