use Rattle.station_ring.proofs.PushLemmas.{empty-holding_of, pushed-holding_of, pushed_all-empty}
use Rattle.station_ring.proofs.ReachLemmas.{held_at-holding_of}
use Rattle.station_ring.proofs.laws.last_pushes_held.Goals as goal

pub returns : goal.returns
returns c =
    record {
      all = pushed_all-empty;
      start = empty-holding_of;
      step = pushed-holding_of;
      places = held_at-holding_of;
    }
