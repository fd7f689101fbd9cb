use Rattle.std.proofs.Common.{arith, ◌≤◌, sym}
use Rattle.mseed_header.proofs.ChainLemmas.{starts, ends, breaks, goes_on, too_low, outside, inside}
use Rattle.mseed_header.proofs.chain.blockettes_of.Goals as goal
use Rattle.mseed_header.proofs.chain.blockettes_of.Goals.{then-at-least-via-then-at-least}
use Rattle.mseed_header.proofs.chain.blockettes_of.Goals.{then-at-least-via-else-at-least+then-not-fits}

pub loop-at-init : goal.loop-at-init
loop-at-init c = rw (c.from-at.ensures, c.word.ensures) (starts c.args.order c.args.record.now)

pub returns-then-at-least-clause-value : goal.returns-then-at-least-clause-value
returns-then-at-least-clause-value c = elim c.then-at-least.branch [
  | then-at-least-via-then-at-least w ↦
      breaks c.args.order c.args.record.now c.loop-at.found c.loop-at.least c.loop-at.at c.loop-at-test.true
      (too_low c.args.order c.args.record.now c.loop-at.least c.loop-at.at w.if-at-least.true) c.loop-at.invariant
  | then-at-least-via-else-at-least+then-not-fits w ↦
      breaks c.args.order c.args.record.now c.loop-at.found c.loop-at.least c.loop-at.at c.loop-at-test.true
      (outside c.args.order c.args.record.now c.loop-at.least c.loop-at.at (sym w.if-not-fits.ensures))
      c.loop-at.invariant
]

pub loop-at-preserved : goal.loop-at-preserved
loop-at-preserved c =
    let above : c.loop-at.least ≤ c.loop-at.at = omega arith in
    rw (
      c.from-at-in-loop-at.ensures,
      c.word-in-loop-at.ensures,
      c.with-found.ensures,
    )
    (goes_on c.args.order c.args.record.now c.loop-at.found c.loop-at.least c.loop-at.at c.loop-at-test.true
    (inside c.args.order c.args.record.now c.loop-at.least c.loop-at.at above (sym c.if-not-fits.ensures))
    c.loop-at.invariant)

pub returns-clause-few : goal.returns-clause-few
returns-clause-few c = omega (arith, c.loop-at.invariant.few, c.loop-at.invariant.high)

pub returns-clause-value : goal.returns-clause-value
returns-clause-value c = ends c.args.order c.args.record.now c.loop-at.found c.loop-at.least c.loop-at.at
    (omega arith) c.loop-at.invariant
