use Rattle.std.proofs.Common.{◌∙◌, sym}
use Rattle.job_read.proofs.TogetherLemmas.{clashes-here, clashes-later}
use Rattle.job_read.proofs.together.first_clash.Goals as goal

pub returns-then-does_clash : goal.returns-then-does_clash
returns-then-does_clash c =
    sym (c.loop-place.invariant
    ∙ clashes-here c.args.wants.now c.loop-place.place c.index-wants-place.result c.loop-place-test.true
    c.index-wants-place.is (sym c.does_clash.ensures ∙ c.if-does_clash.true))

pub loop-place-preserved : goal.loop-place-preserved
loop-place-preserved c =
    c.loop-place.invariant
    ∙ clashes-later c.args.wants.now c.loop-place.place c.index-wants-place.result c.loop-place-test.true
    c.index-wants-place.is (sym c.does_clash.ensures ∙ c.if-does_clash.false)
