use Rattle.std.proofs.Common.{◌≡◌, ◌<◌, length, arith}
use Rattle.server_watch.proofs.MinuteLemmas.{shifted_is}
use Rattle.server_watch.proofs.minutes.shift.Goals as goal

pub returns : goal.returns
returns c =
    let same : length c.loop-at.counts ≡ length c.args.counts.now = omega (arith, c.loop-at.auto.counts) in
    shifted_is c.loop-at.counts c.args.counts.now c.args.by c.requires same (λ k lt.
    let within : k < c.loop-at.at = omega (arith, lt, c.loop-at-test.false, c.loop-at.auto.counts, c.loop-at.auto.at-end) in
    c.loop-at.invariant.0 k within)
