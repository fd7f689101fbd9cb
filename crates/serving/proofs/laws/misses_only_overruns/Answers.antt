use Rattle.serving.proofs.ClaimLemmas.{takes-all-but-overruns}
use Rattle.serving.proofs.laws.misses_only_overruns.Goals as goal

pub returns : goal.returns
returns g c = takes-all-but-overruns _
