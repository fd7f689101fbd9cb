use Rattle.std.proofs.Common.{◌∙◌, ap}
use Rattle.station_ring.specs.HeldRecords.{RingsValue}
use Rattle.station_ring.specs.Levels.{raises_in}
use Rattle.station_ring.proofs.LevelLemmas.{raises-held}
use Rattle.station_ring.proofs.rings.Rings.raises.Goals as goal

pub returns-clause-history : goal.returns-clause-history
returns-clause-history c = λ config h is.
    c.self.invariant.raises_are
    ∙ ap (λ (x : RingsValue). raises_in x) (c.self.view_is ∙ is)
    ∙ raises-held config h
