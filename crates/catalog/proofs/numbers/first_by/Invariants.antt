use Rattle.std.proofs.Common.{◌≡◌, drop}
use Rattle.catalog.specs.Numbers.{first_by}
use Rattle.catalog.proofs.numbers.first_by.Given as goal

abbrev pub invariant-loop-number : goal.invariant-loop-number
invariant-loop-number l =
    first_by l.kept l.station.station ≡ first_by (drop l.number-index l.kept) l.station.station
