use Rattle.std.proofs.Common.{◌≡◌, map, take}
use Rattle.catalog.specs.Numbers.{numbered}
use Rattle.number_file.proofs.table.first_numbers.Given as goal

abbrev pub invariant-loop-station : goal.invariant-loop-station
invariant-loop-station l = l.numbers.items ≡ map numbered (take l.station-index l.stations)
