use Rattle.std.proofs.Common.{◌≡◌, ◌<◌, ℕ, Some, slice_get}
use Rattle.session_state.specs.NamedValues.{Choice}
use Rattle.session_state.specs.Choices.{chosen_of}
use Rattle.station_ring.specs.declared.held.Stream.{Stream}
use Rattle.transfer.specs.Filters.{IsFilter, Refuses}
use Rattle.transfer.proofs.filters.Filter.refuses_all.Given as goal

-- The filter is still that of the station, and the streams before this one are refused.
abbrev pub invariant-loop-number : goal.invariant-loop-number
invariant-loop-number l = record {
  filter : (c : Choice) → slice_get (chosen_of l.session.mode) l.i ≡ Some c → IsFilter l.fn.self l.streams c
      → IsFilter l.self l.streams c;
  refused : (c : Choice) → slice_get (chosen_of l.session.mode) l.i ≡ Some c → (k : ℕ) (s : Stream) → k < l.number
      → slice_get l.streams k ≡ Some s → Refuses c.patterns s;
}
