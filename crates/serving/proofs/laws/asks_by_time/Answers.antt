use Rattle.serving.proofs.LookLemmas.{asks-by-time}
use Rattle.serving.proofs.laws.asks_by_time.Goals as goal

pub returns : goal.returns
returns g c = asks-by-time _
