use Rattle.std.proofs.Common.{subst, sym}
use Rattle.slreader.specs.Placing.{ArePlaces}
use Rattle.slreader.proofs.PlacingLemmas.{places_stay}
use Rattle.slreader.proofs.tally.Tally.count.Goals as goal

pub invariant_of-self : goal.invariant_of-self
invariant_of-self c = λ kept same.
    subst (ArePlaces kept.firsts kept.nexts.items) (sym c.pass_found.ensures)
    (places_stay kept.firsts kept.nexts.items c.in_packet-number.result c.header-header.result.now
    c.self.inside.resumes.items (c.self.invariant kept same))
