use Rattle.station_ring.proofs.ArrivalLemmas.{arrives_by_place}
use Rattle.station_ring.proofs.laws.arrivals_by_place.Goals as goal

pub returns : goal.returns
returns c = arrives_by_place
