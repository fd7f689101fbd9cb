use Rattle.std.proofs.Common.{◌≡◌, ◌+◌, Some, slice_get, List}
use Rattle.session_state.specs.NamedValues.{Choice}
use Rattle.session_state.specs.Choices.{chosen_of}
use Rattle.station_ring.specs.declared.held.Stream.{Stream}
use Rattle.transfer.specs.Cursors.{HasPassed}
use Rattle.transfer.specs.Filters.{IsFilter, TellAt}
use Rattle.transfer.specs.Searches.{at_place}
use Rattle.transfer.proofs.searching.pass_briefs.Given as goal

-- No record before this place is wanted, and the filter is still that of the station.
abbrev pub invariant-loop-k : goal.invariant-loop-k
invariant-loop-k l = record {
  passed : (streams : List Stream) (c : Choice) → slice_get (chosen_of l.session.mode) l.i ≡ Some c
      → TellAt l.ring l.from.place streams l.briefs → IsFilter l.fn.filter streams c
      → HasPassed l.ring l.next c (at_place l.from.place l.from.ended)
      → HasPassed l.ring l.next c (at_place (l.from.place + l.k) l.ended);
  filter : (streams : List Stream) (c : Choice) → slice_get (chosen_of l.session.mode) l.i ≡ Some c
      → TellAt l.ring l.from.place streams l.briefs → IsFilter l.fn.filter streams c → IsFilter l.filter streams c;
}
