use Rattle.std.proofs.Common.{◌≡◌, map}
use Rattle.config_explained.specs.Differences.{differing_among}
use Rattle.config_explained.proofs.DifferenceLemmas.{among_from}
use Rattle.config_explained.proofs.difference.differing_among.Given as goal

abbrev pub invariant-loop-place : goal.invariant-loop-place
invariant-loop-place l =
    differing_among 0 (map (λ e. e.station) l.stations) (map (λ e. e.station) l.others)
    ≡ among_from l.stations l.others l.place
