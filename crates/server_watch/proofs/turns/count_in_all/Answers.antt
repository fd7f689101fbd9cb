use Rattle.std.proofs.Common.{◌<◌, ◌∙◌, ap, arith, length, slice_set}
use Rattle.std.proofs.lemmas.List.{get_or_default}
use Rattle.std.proofs.lemmas.List.Edits.{map_over_more}
use Rattle.status_page.specs.declared.value.TurnBucket.{TurnBucket}
use Rattle.server_watch.specs.Turns.{with_turn_in}
use Rattle.server_watch.proofs.turns.count_in_all.Goals as goal

pub loop-bucket-preserved : goal.loop-bucket-preserved
loop-bucket-preserved c =
    let ys = c.loop-bucket.buckets in
    let i = c.loop-bucket.bucket-index in
    let lt : i < length ys = omega (arith, c.loop-bucket.auto.buckets, c.loop-bucket-test.true) in
    ap (λ (b : TurnBucket). slice_set ys i b) c.count_in.ensures
    ∙ map_over_more (with_turn_in c.args.micros) c.args.buckets.now ys i _ c.loop-bucket-test.true
    c.loop-bucket.invariant (get_or_default ys i _ _ lt)
