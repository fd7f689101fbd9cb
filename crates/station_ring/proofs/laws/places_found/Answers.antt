use Rattle.station_ring.proofs.NumberLemmas.{place_with_law}
use Rattle.station_ring.proofs.laws.places_found.Goals as goal

pub returns : goal.returns
returns c = place_with_law
