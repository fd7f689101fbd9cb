use Rattle.std.proofs.Common.{◌≡◌, ◌<◌, ◌∙◌, length, slice_get, slice_set, Some, sym, ap, subst}
use Rattle.catalog.specs.Places.{station_at}
use Rattle.station_ring.specs.declared.held.Held.{Held}
use Rattle.station_ring.specs.Rings.{pushed}
use Rattle.station_ring.specs.HeldRecords.{RingsValue, holdings_of, ring_of}
use Rattle.station_ring.proofs.HeldNumberLemmas.{next_number-ring}
use Rattle.station_ring.proofs.RingsLemmas.{ring_of_place, arrives, is_held_of}
use Rattle.station_ring.proofs.rings.Rings.arrive.Goals as goal

pub returns-clause-holds : goal.returns-clause-holds
returns-clause-holds c = λ config h a is distinct of_station bytes_are summary_is.
    let all : RingsValue = record { rings = c.self.inside.rings.items; arrivals = c.self.inside.arrivals } in
    let item : Held = record { stamp = c.self.inside.arrivals; bytes = c.args.bytes.now; summary = c.args.summary } in
    let is_all : all ≡ holdings_of config h = c.self.view_is ∙ is in
    let within : c.args.place < length all.rings = subst (λ (x : RingsValue). c.args.place < length x.rings)
    (sym c.self.view_is) c.requires.there in
    let lent : c.as_mut_slice.result.now ≡ all.rings = c.as_mut_slice.ensures.value in
    let there : slice_get c.as_mut_slice.result.now c.args.place
    ≡ Some (ring_of (station_at config.entries c.args.place) h) =
    ap (λ rs. slice_get rs c.args.place) lent ∙ ring_of_place config h c.args.place all is_all within in
    arrives config h a c.args.place all c.push_at-pushed.new.rings c.self.inside.rings.len item c.self.inside.rings.ok.0
    is_all distinct of_station within
    (is_held_of c.self.inside.arrivals a c.args.bytes.now c.args.summary bytes_are summary_is)
    (c.push_at-pushed.ensures.pushed (ring_of (station_at config.entries c.args.place) h) there
    ∙ ap (λ rs. slice_set rs c.args.place (pushed (ring_of (station_at config.entries c.args.place) h) item)) lent)

pub returns-clause-number : goal.returns-clause-number
returns-clause-number c = λ config h is.
    let all : RingsValue = record { rings = c.self.inside.rings.items; arrivals = c.self.inside.arrivals } in
    let is_all : all ≡ holdings_of config h = c.self.view_is ∙ is in
    let within : c.args.place < length all.rings = subst (λ (x : RingsValue). c.args.place < length x.rings)
    (sym c.self.view_is) c.requires.there in
    let lent : c.as_mut_slice.result.now ≡ all.rings = c.as_mut_slice.ensures.value in
    let there : slice_get c.as_mut_slice.result.now c.args.place
    ≡ Some (ring_of (station_at config.entries c.args.place) h) =
    ap (λ rs. slice_get rs c.args.place) lent ∙ ring_of_place config h c.args.place all is_all within in
    c.push_at-pushed.ensures.number (ring_of (station_at config.entries c.args.place) h) there
    ∙ next_number-ring (station_at config.entries c.args.place) h
