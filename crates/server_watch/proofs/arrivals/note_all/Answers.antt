use Rattle.std.proofs.Common.{◌<◌, ◌∙◌, arith, length}
use Rattle.std.proofs.lemmas.List.{get_or_default}
use Rattle.server_watch.proofs.ArrivalLemmas.{all_of, noted_next}
use Rattle.server_watch.proofs.arrivals.note_all.Goals as goal

pub loop-place-preserved : goal.loop-place-preserved
loop-place-preserved c =
    let ys = c.loop-place.arrivals in
    let i = c.loop-place.place in
    let lt : i < length ys = omega (arith, c.loop-place.auto.arrivals, c.loop-place-test.true) in
    noted_next c.args.now i c.args.arrivals.now c.args.rings.now.rings ys _ c.note_ring.new.self _ c.loop-place.invariant
    c.loop-place-test.true (get_or_default ys i _ _ lt) c.ring.ensures.ring c.note_ring.ensures

pub returns : goal.returns
returns c =
    c.loop-place.invariant
    ∙ all_of c.args.now c.loop-place.place c.args.arrivals.now c.args.rings.now.rings
    (omega (arith, c.loop-place-test.false, c.loop-place.auto.place-end))
