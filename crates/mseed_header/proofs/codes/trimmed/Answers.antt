use Rattle.std.proofs.Common.{arith, ◌∙◌, sym}
use Rattle.mseed_header.proofs.TrimLemmas.{space_less, nothing_less, nothing_left}
use Rattle.mseed_header.proofs.codes.trimmed.Goals as goal
use Rattle.mseed_header.proofs.codes.trimmed.Goals.{then-loop-length-test+else-field-length-eq32, else-loop-length-test}

pub loop-length-preserved : goal.loop-length-preserved
loop-length-preserved c = record {
  within = omega arith;
  same =
      space_less c.args.field.now c.loop-length.length c.loop-length-test.true c.loop-length.invariant.within
      c.if-field-length-eq32.true ∙ c.loop-length.invariant.same;
}

pub returns-clause-code : goal.returns-clause-code
returns-clause-code c = elim c.loop-length-test.branch [
  | then-loop-length-test+else-field-length-eq32 w ↦
      sym
      (nothing_less c.args.field.now c.loop-length.length w.loop-length-test.true c.loop-length.invariant.within
      w.if-field-length-eq32.false) ∙ c.loop-length.invariant.same
  | else-loop-length-test w ↦ nothing_left c.args.field.now c.loop-length.length (omega arith)
      ∙ c.loop-length.invariant.same
]
