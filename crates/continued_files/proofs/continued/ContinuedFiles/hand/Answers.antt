use Rattle.std.proofs.Common.{ap}
use Rattle.continued_files.specs.Known.{length_of}
use Rattle.continued_files.proofs.StepLemmas.{hands}
use Rattle.continued_files.proofs.continued.ContinuedFiles.hand.Goals as goal

pub returns-in-Ok-clause-step : goal.returns-in-Ok-clause-step
returns-in-Ok-clause-step g c =
    let h = c.in-Ok.ensures in
    hands _ _ c.args.name.now c.args.bytes.now h.offers
    (record {
      records = h.others;
      safe = h.safe;
      known = h.other_tails;
      named = λ other. ap (λ v. length_of v.items other) h.rest.0;
      unnamed = h.rest.1;
    })
