use Rattle.std.proofs.Common.{◌∙◌, sym, ap}
use Rattle.protocol.specs.History.{from_number}
use Rattle.catalog.specs.Places.{station_at}
use Rattle.station_ring.specs.HeldRecords.{RingsValue}
use Rattle.station_ring.proofs.RingsLemmas.{arrivals_are, ring_is, station_is_nowhere}
use Rattle.station_ring.proofs.HistoryLemmas.{from_number-nowhere}
use Rattle.station_ring.proofs.rings.Rings.from_number.Goals as goal

pub returns-in-Some-clause-position : goal.returns-in-Some-clause-position
returns-in-Some-clause-position c = λ config h is.
    c.from_number.ensures.position (station_at config.entries c.args.place) h
    (ring_is config h c.args.place c.args.self.now c.in-Some.ring.now is c.in-Some.ensures.ring)
    (ap (λ (x : RingsValue). x.arrivals) c.self.view_is ∙ arrivals_are config h c.args.self.now is)

pub returns-in-None-clause-position : goal.returns-in-None-clause-position
returns-in-None-clause-position c = λ config h is.
    ap (λ (x : RingsValue). x.arrivals) c.self.view_is
    ∙ arrivals_are config h c.args.self.now is
    ∙ from_number-nowhere h c.args.number
    ∙ ap (λ s. from_number s h c.args.number)
    (sym (station_is_nowhere config h c.args.place c.args.self.now is c.in-None.ensures.ring))
