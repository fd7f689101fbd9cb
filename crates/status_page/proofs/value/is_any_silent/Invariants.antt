use Rattle.std.proofs.Common.{◌≡◌, drop}
use Rattle.status_page.specs.Values.{any_silent}
use Rattle.status_page.proofs.value.is_any_silent.Given as goal

abbrev pub invariant-loop-station : goal.invariant-loop-station
invariant-loop-station l =
    any_silent l.stations ≡ any_silent (drop l.station-index l.stations)
