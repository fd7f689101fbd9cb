use Rattle.std.proofs.Common.{ap, ◌∙◌}
use Rattle.station_ring.specs.Rings.{held_from}
use Rattle.station_ring.proofs.HistoryLemmas.{oldest-found, oldest-none}
use Rattle.station_ring.proofs.rings.oldest_of.Goals as goal

pub returns-in-Some : goal.returns-in-Some
returns-in-Some c = λ s h is count. oldest-found s h c.in-Some._place c.in-Some.held.now
    (c.in-Some.ensures ∙ ap (λ r. held_from r 0) is)

pub returns-in-None : goal.returns-in-None
returns-in-None c = λ s h is count. count ∙ oldest-none s h (c.in-None.ensures ∙ ap (λ r. held_from r 0) is)
