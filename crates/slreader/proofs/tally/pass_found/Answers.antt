use Rattle.std.proofs.Common.{◌≡◌, map, subst, sym}
use Rattle.slreader.specs.Tallies.{passed}
use Rattle.slreader.proofs.PlacingLemmas.{nobody_passed}
use Rattle.slreader.proofs.tally.pass_found.Goals as goal

pub returns-in-None : goal.returns-in-None
returns-in-None c =
    let rs = c.args.resumes.now.items in
    subst (λ h. rs ≡ map (passed c.args.number.now h) rs) (sym c.in-None.is)
    (nobody_passed c.args.number.now rs c.requires.named)
