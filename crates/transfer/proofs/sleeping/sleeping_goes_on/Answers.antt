use Rattle.transfer.proofs.SleepLemmas.{sleeps-on}
use Rattle.transfer.proofs.sleeping.sleeping_goes_on.Goals as goal

pub returns : goal.returns
returns c = sleeps-on
