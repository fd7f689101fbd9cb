use Rattle.serving.proofs.ClaimLemmas.{takes-as-without-hidden}
use Rattle.serving.proofs.laws.hidden_stations_tell_nothing.Goals as goal

pub returns : goal.returns
returns g c = takes-as-without-hidden _
