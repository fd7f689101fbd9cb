use Rattle.std.proofs.Common.{◌≡◌, ◌++◌, take, flat_map}
use Rattle.status_page.specs.Templates.{station_row}
use Rattle.status_page.proofs.template.put_stations.Given as goal

abbrev pub invariant-loop-station : goal.invariant-loop-station
invariant-loop-station l = l.text.items ≡ l.fn.text.items
    ++ flat_map (station_row l.language l.rows) (take l.station-index l.stations)
