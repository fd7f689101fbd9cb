use Rattle.std.proofs.Common.{◌≡◌, take}
use Rattle.catalog.proofs.comparing.copies.Given as goal

abbrev pub invariant-loop-station : goal.invariant-loop-station
invariant-loop-station l = l.copies.items ≡ take l.station-index l.stations
