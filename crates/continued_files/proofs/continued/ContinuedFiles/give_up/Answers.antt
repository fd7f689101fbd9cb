use Rattle.std.proofs.Common.{refl}
use Rattle.continued_files.specs.Names.{has}
use Rattle.continued_files.proofs.StepLemmas.{gives-up}
use Rattle.continued_files.proofs.continued.ContinuedFiles.give_up.Goals as goal

pub returns-clause-step : goal.returns-clause-step
returns-clause-step g c =
    gives-up _ _ (has c.args.names.now)
    (record {
      records = λ name. refl;
      safe = λ name. refl;
      known = c.give_up_tails.ensures;
      named = λ name. refl;
      unnamed = refl;
    })
