use Rattle.std.proofs.Common.{◌≡◌, [], take}
use Rattle.station_ring.proofs.RingsLemmas.{rings_of}
use Rattle.station_ring.proofs.rings.Rings.new.Given as goal

abbrev pub invariant-loop-station : goal.invariant-loop-station
invariant-loop-station l = l.rings.items ≡ rings_of (take l.station-index l.station-items) []
