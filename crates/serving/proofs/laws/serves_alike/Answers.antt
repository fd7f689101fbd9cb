use Rattle.serving.proofs.ClaimLemmas.{takes-alike}
use Rattle.serving.proofs.laws.serves_alike.Goals as goal

pub returns : goal.returns
returns g c = takes-alike _
