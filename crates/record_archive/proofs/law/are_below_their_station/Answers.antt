use Rattle.record_archive.proofs.ApartLemmas.{below-station}
use Rattle.record_archive.proofs.law.are_below_their_station.Goals as goal

pub returns : goal.returns
returns c = below-station
