use Rattle.serving.proofs.KeepLemmas.{keeps-ahead}
use Rattle.serving.proofs.laws.keeps_ahead.Goals as goal

pub returns : goal.returns
returns g c = keeps-ahead _
