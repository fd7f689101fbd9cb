use Rattle.std.proofs.Common.{◌≡◌, ◌++◌, drop, map, take}
use Rattle.catalog.specs.Numbers.{entry_by}
use Rattle.catalog.proofs.numbers.begin_at.Given as goal

abbrev pub invariant-loop-station : goal.invariant-loop-station
invariant-loop-station l =
    l.station-items ≡ map (entry_by l.kept) (take l.station-index l.initial.station-items)
    ++ drop l.station-index l.initial.station-items
