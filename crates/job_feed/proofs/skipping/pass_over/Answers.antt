use Rattle.std.proofs.Common.{◌≡◌, ℕ, ◌+◌, ◌-◌, ◌≤◌, length, take, subst, sym, arith}
use Rattle.std.proofs.lemmas.Grind.{common_steps}
use Rattle.job_feed.proofs.SkippingLemmas.{IsBehind, passes_more}
use Rattle.job_feed.proofs.skipping.pass_over.Goals as goal

pub passed-preserved : goal.passed-preserved
passed-preserved g c =
    let n : ℕ = c.in_ok-passed.passed in
    let within : c.passed.left ≤ c.args.count = c.passed.invariant.within in
    let bound = c.in_ok-passed.ensures.bound in
    let first = bound.0 in
    let buffer = c.read.auto.buffer in
    let room = c.min-room.ensures in
    let small : n ≤ c.passed.left = grind (arith, common_steps, first, buffer, room) in
    let size : length (take n c.read.new.buffer) ≡ n = sym bound.1 in
    let sum : c.args.count - c.passed.left + n ≡ c.args.count - (c.passed.left - n) = omega (arith, small, within) in
    record {
      within = omega (arith, within);
      behind = subst (IsBehind (g.R.Source.left c.args.records.now) (g.R.Source.left c.read.new.self)) sum
          (passes_more _ _ _ (c.args.count - c.passed.left) n _ size c.passed.invariant.behind
          c.in_ok-passed.ensures.bytes.0);
    }
