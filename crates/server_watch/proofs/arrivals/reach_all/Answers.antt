use Rattle.std.proofs.Common.{◌<◌, ◌∙◌, ap, arith, length, slice_set}
use Rattle.std.proofs.lemmas.List.{get_or_default}
use Rattle.std.proofs.lemmas.List.Edits.{map_over_more}
use Rattle.server_watch.specs.declared.arrivals.Arrivals.{Arrivals}
use Rattle.server_watch.specs.Watching.{reaching}
use Rattle.server_watch.proofs.arrivals.reach_all.Goals as goal

pub loop-one-preserved : goal.loop-one-preserved
loop-one-preserved c =
    let ys = c.loop-one.arrivals in
    let i = c.loop-one.one-index in
    let lt : i < length ys = omega (arith, c.loop-one.auto.arrivals, c.loop-one-test.true) in
    ap (λ (a : Arrivals). slice_set ys i a) c.reach.ensures
    ∙ map_over_more (reaching c.args.minute) c.args.arrivals.now ys i _ c.loop-one-test.true c.loop-one.invariant
    (get_or_default ys i _ _ lt)
