use Rattle.station_ring.proofs.HistoryLemmas.{walk_all}
use Rattle.station_ring.proofs.laws.held_in_the_ring.Goals as goal

pub returns : goal.returns
returns c = walk_all
