use Rattle.std.proofs.Common.{arith, ap, sym, take, ◌∙◌}
use Rattle.station_ring.specs.Levels.{raises_of}
use Rattle.station_ring.proofs.LevelLemmas.{raises-none}
use Rattle.station_ring.proofs.RingsLemmas.{made-more, made-all, made-behind}
use Rattle.station_ring.proofs.rings.Rings.new.Goals as goal

pub loop-station-preserved : goal.loop-station-preserved
loop-station-preserved c =
    made-more c.stations-station-items.result.now c.loop-station.station-index c.station-item.result
    c.loop-station.rings.items c.push.new.self.items c.in_ok-new.field-0 c.capacity.result c.first.result
    c.loop-station.invariant (omega arith) c.station-item.is c.in_ok-new.ensures c.capacity.ensures.value
    c.first.ensures c.in_ok-push.ensures.items

pub invariant_of-result : goal.invariant_of-result
invariant_of-result c = record {
  behind =
      made-behind c.stations-station-items.result.now c.loop-station.station-index c.loop-station.rings.items
      c.loop-station.invariant;
  raises_are =
      sym (ap raises_of c.loop-station.invariant
      ∙ raises-none (take c.loop-station.station-index c.stations-station-items.result.now));
  few = omega arith;
}

pub returns : goal.returns
returns c =
    made-all c.args.config.now c.stations-station-items.result.now c.loop-station.station-index
    c.loop-station.rings.items c.loop-station.invariant (omega arith) c.stations-station-items.ensures
