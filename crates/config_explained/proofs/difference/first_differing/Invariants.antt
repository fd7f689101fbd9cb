use Rattle.std.proofs.Common.{◌≡◌, drop, find}
use Rattle.config_explained.specs.Differences.{differs}
use Rattle.config_explained.proofs.difference.first_differing.Given as goal

abbrev pub invariant-loop-step : goal.invariant-loop-step
invariant-loop-step l =
    find (differs l.station.station l.other.station) l.steps
    ≡ find (differs l.station.station l.other.station) (drop l.step-index l.steps)
