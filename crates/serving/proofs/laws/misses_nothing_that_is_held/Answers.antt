use Rattle.serving.proofs.ClaimLemmas.{takes-all-that-is-held}
use Rattle.serving.proofs.laws.misses_nothing_that_is_held.Goals as goal

pub returns : goal.returns
returns g c = takes-all-that-is-held _
