use Rattle.std.proofs.Common.{drop, subst, ◌-◌, ◌++◌}
use Rattle.station_ring.specs.Briefs.{AreBriefs}
use Rattle.station_ring.specs.Rings.{RingValue}
use Rattle.station_ring.proofs.BriefLemmas.{tell-from}
use Rattle.station_ring.proofs.ring.Ring.briefs_from.Goals as goal

pub returns : goal.returns
returns c =
    tell-from c.args.self.now c.args.place c.first_place-first.result _ _ c.first_place-first.ensures.place
    c.requires.low c.requires.high c.first_place-first.ensures.together
    (subst
    (λ (r : RingValue). AreBriefs c.briefs_from.result.streams.now
    (drop (c.args.place - c.first_place-first.result) r.held)
    (c.briefs_from.result.older.now ++ c.briefs_from.result.newer.now)) c.self.view_is c.briefs_from.ensures)
