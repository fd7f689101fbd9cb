use Rattle.std.proofs.Common.{◌+◌, ◌∙◌, if◌then◌else◌, get_or, slice_set, sym, ap}
use Rattle.std.proofs.lemmas.List.{get_or-set_same}
use Rattle.station_ring.specs.declared.held.Held.{Held}
use Rattle.station_ring.specs.Rings.{RingValue}
use Rattle.station_ring.specs.Levels.{is_raise, raises_of}
use Rattle.station_ring.proofs.FirstLemmas.{get-other, grow-at, grow-one}
use Rattle.station_ring.proofs.LevelLemmas.{raises-push, ring-there}
use Rattle.station_ring.proofs.rings.push_at.Goals as goal

pub returns-clause-raises : goal.returns-clause-raises
returns-clause-raises c =
    let r : RingValue = get_or c.args.rings.now c.args.place c.index-rings-place.result in
    let item : Held = record { stamp = c.args.arrivals; bytes = c.args.bytes.now; summary = c.args.summary } in
    ap (λ x. raises_of (slice_set c.args.rings.now c.args.place x)) c.push-number.ensures.held
    ∙ raises-push c.args.rings.now c.args.place r item
    (ring-there c.args.rings.now c.args.place c.index-rings-place.result c.requires.there)
    ∙ ap (λ b. raises_of c.args.rings.now + (if b then 1 else 0))
    (sym (c.is_raise.ensures ∙ ap is_raise (c.pushes.ensures
    ∙ ap (λ (x : RingValue). x.pushes)
    (get_or-set_same c.args.rings.now c.args.place c.push-number.new.self c.index-rings-place-2.result c.requires.there
    ∙ c.push-number.ensures.held))))

pub returns-clause-grow : goal.returns-clause-grow
returns-clause-grow c =
    grow-at c.args.rings.now c.args.place (get_or c.args.rings.now c.args.place c.index-rings-place.result)
    c.push-number.new.self
    (ring-there c.args.rings.now c.args.place c.index-rings-place.result c.requires.there)
    c.push-number.ensures.grows

pub returns-clause-by_one : goal.returns-clause-by_one
returns-clause-by_one c =
    grow-one c.args.rings.now c.args.place (get_or c.args.rings.now c.args.place c.index-rings-place.result)
    c.push-number.new.self
    (ring-there c.args.rings.now c.args.place c.index-rings-place.result c.requires.there)
    (ap (λ r. r.pushes) c.push-number.ensures.held)

pub returns-clause-others : goal.returns-clause-others
returns-clause-others c =
    λ other apart. get-other c.args.rings.now c.args.place other c.push-number.new.self apart
