use Rattle.std.proofs.Common.{◌≡◌, ◌∙◌, refl}
use Rattle.status_page.proofs.LoopLemmas.{text_more}
use Rattle.status_page.specs.Templates.{station_row}
use Rattle.status_page.proofs.template.put_stations.Goals as goal

pub loop-station-preserved : goal.loop-station-preserved
loop-station-preserved c =
    c.in_ok-put_station.ensures ∙ text_more (station_row c.args.language c.args.rows.now)
    c.args.stations.now c.args.text.now.items c.loop-station.text.items c.loop-station.station-index c.station-item.result
    c.loop-station.invariant c.loop-station-test.true c.station-item.is
