use Rattle.serving.proofs.CountLemmas.{asks-as-due}
use Rattle.serving.proofs.laws.asks_as_due.Goals as goal

pub returns : goal.returns
returns g c = asks-as-due _
