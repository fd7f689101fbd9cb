use Rattle.slreader.proofs.LastLemmas.{state-goes-on}
use Rattle.slreader.proofs.laws.state_goes_on.Goals as goal

pub returns : goal.returns
returns c = state-goes-on
