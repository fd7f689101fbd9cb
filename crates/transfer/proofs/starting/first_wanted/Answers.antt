use Rattle.station_ring.proofs.FirstLemmas.{before-next}
use Rattle.transfer.proofs.StartLemmas.{behind-there}
use Rattle.transfer.proofs.starting.first_wanted.Goals as goal

pub returns-in-Data-None-default-clause-before : goal.returns-in-Data-None-default-clause-before
returns-in-Data-None-default-clause-before c = λ r there.
    before-next r _ c.arrivals.result
    (behind-there c.arrivals.result c.args.rings.now.rings c.args.place r c.arrivals.ensures.behind there)
