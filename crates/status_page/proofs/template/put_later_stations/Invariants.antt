use Rattle.std.proofs.Common.{◌≡◌, ◌++◌, take, flat_map}
use Rattle.status_page.specs.Templates.{later_station}
use Rattle.status_page.proofs.template.put_later_stations.Given as goal

abbrev pub invariant-loop-station : goal.invariant-loop-station
invariant-loop-station l = l.text.items ≡ l.fn.text.items
    ++ flat_map (later_station l.language l.pieces) (take l.station-index l.stations)
