use Rattle.std.proofs.Common.{◌≡◌, ℕ, List, drop, filter_map, map}
use Rattle.std.specs.List.{list_all}
use Rattle.protocol.specs.Catalog.{Config}
use Rattle.protocol.specs.History.{Arrival, is_over}
use Rattle.station_ring.specs.HeldRecords.{holdings_of}
use Rattle.session_state.specs.NamedValues.{Choice, entry_of}
use Rattle.session_state.specs.Choices.{request_in}
use Rattle.transfer.specs.Cursors.{IsReached, OfAll, RestsIn}
use Rattle.transfer.proofs.choosing.is_complete.Given as goal

-- All is over where the rest is.
abbrev pub invariant-loop-entry : goal.invariant-loop-entry
invariant-loop-entry l = (cs : List Choice) → map entry_of cs ≡ l.entries → (next : ℕ) → OfAll (RestsIn l.rings next) cs
    → OfAll (IsReached l.rings) cs → (config : Config) (h : List Arrival) → l.rings ≡ holdings_of config h →
    list_all (is_over h) (filter_map (request_in config) cs)
    ≡ list_all (is_over h) (filter_map (request_in config) (drop l.entry-index cs))
