use Rattle.std.proofs.Common.{◌∙◌, sym, ap}
use Rattle.protocol.specs.History.{oldest_held}
use Rattle.catalog.specs.Places.{station_at}
use Rattle.station_ring.specs.HeldRecords.{RingsValue}
use Rattle.station_ring.proofs.RingsLemmas.{arrivals_are, ring_is, station_is_nowhere}
use Rattle.station_ring.proofs.HistoryLemmas.{oldest_held-nowhere}
use Rattle.station_ring.proofs.rings.Rings.oldest_held.Goals as goal

pub returns-in-Some : goal.returns-in-Some
returns-in-Some c = λ config h is.
    c.oldest_of.ensures (station_at config.entries c.args.place) h
    (ring_is config h c.args.place c.args.self.now c.in-Some.ring.now is c.in-Some.ensures.ring)
    (ap (λ (x : RingsValue). x.arrivals) c.self.view_is ∙ arrivals_are config h c.args.self.now is)

pub returns-in-None : goal.returns-in-None
returns-in-None c = λ config h is.
    ap (λ (x : RingsValue). x.arrivals) c.self.view_is
    ∙ arrivals_are config h c.args.self.now is
    ∙ oldest_held-nowhere h
    ∙ ap (λ s. oldest_held s h)
    (sym (station_is_nowhere config h c.args.place c.args.self.now is c.in-None.ensures.ring))
