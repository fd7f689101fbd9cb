use Rattle.std.proofs.Common.{◌-◌}
use Rattle.mseed_header.proofs.ChainLemmas.{Walks}
use Rattle.mseed_header.proofs.chain.blockettes_of.Given as goal

abbrev pub invariant-loop-at : goal.invariant-loop-at
invariant-loop-at l = Walks l.order l.record l.found l.least l.at

abbrev pub decreases-loop-at : goal.decreases-loop-at
decreases-loop-at l = 512 - l.least
