use Rattle.serving.proofs.KeepLemmas.{keeps-exactly}
use Rattle.serving.proofs.laws.keeps_exactly.Goals as goal

pub returns : goal.returns
returns g c = keeps-exactly _
