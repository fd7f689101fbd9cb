-- One want more is passed.
use Rattle.std.proofs.Common.{arith}
use Rattle.slreader.specs.Tallies.{passed}
use Rattle.slreader.proofs.TallyLemmas.{set_next}
use Rattle.slreader.proofs.tally.pass_all.Goals as goal

pub loop-index-preserved : goal.loop-index-preserved
loop-index-preserved c =
    set_next (passed c.args.number.now c.args.header.now) c.args.resumes.now.items _ c.loop-index.index _ _
    c.loop-index.invariant (omega (arith, c.args.resumes.now.ok.0)) c.index_mut-resume.ensures.value c.pass.ensures
