use Rattle.std.proofs.Common.{◌∙◌, refl}
use Rattle.station_ring.proofs.HeldNumberLemmas.{from-next, from-oldest}
use Rattle.station_ring.specs.HeldRecords.{place_from}
use Rattle.station_ring.proofs.FirstLemmas.{before-next, begins-oldest}
use Rattle.station_ring.proofs.rings.from_number.Goals as goal

pub returns-in-None-clause-position : goal.returns-in-None-clause-position
returns-in-None-clause-position c = λ s h is count. count
    ∙ from-next s h c.args.number c.args.ring.now c.next_number.result is
    (c.in-None.ensures.position s h is) c.next_number.ensures c.if-eq.ensures

pub returns-in-None-2-clause-position : goal.returns-in-None-2-clause-position
returns-in-None-2-clause-position c = λ s h is count. c.oldest_of.ensures s h is count
    ∙ from-oldest s h c.args.number c.args.ring.now c.next_number.result is
    (c.in-None.ensures.position s h is) c.next_number.ensures c.if-eq.ensures

pub returns-in-None-clause-before : goal.returns-in-None-clause-before
returns-in-None-clause-before c =
    λ behind. before-next c.args.ring.now (place_from c.args.ring.now c.args.number) c.args.arrivals behind

pub returns-in-None-2-clause-before : goal.returns-in-None-2-clause-before
returns-in-None-2-clause-before c = λ behind.
    begins-oldest c.args.ring.now c.args.number c.next_number.result c.oldest_of.result
    (c.in-None-2.ensures.none refl) c.next_number.ensures c.if-eq.ensures
