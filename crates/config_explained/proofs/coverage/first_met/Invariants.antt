use Rattle.std.proofs.Common.{◌≡◌, drop, find}
use Rattle.config_explained.specs.Coverage.{meets}
use Rattle.config_explained.proofs.coverage.first_met.Given as goal

abbrev pub invariant-loop-network : goal.invariant-loop-network
invariant-loop-network l =
    find (meets l.other) l.networks ≡ find (meets l.other) (drop l.network-index l.networks)
