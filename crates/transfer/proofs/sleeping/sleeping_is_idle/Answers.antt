use Rattle.transfer.proofs.SleepLemmas.{sleeps-idle}
use Rattle.transfer.proofs.sleeping.sleeping_is_idle.Goals as goal

pub returns : goal.returns
returns c = sleeps-idle
