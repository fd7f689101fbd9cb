use Rattle.protocol.proofs.AloneLemmas.{goes-on}
use Rattle.protocol.proofs.isolation_goes_on.Goals as goal

pub returns : goal.returns
returns c = goes-on
