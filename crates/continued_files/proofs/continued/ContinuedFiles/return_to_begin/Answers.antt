use Rattle.std.proofs.Common.{refl}
use Rattle.continued_files.specs.Names.{has}
use Rattle.continued_files.proofs.StepLemmas.{all-tail, returns}
use Rattle.continued_files.proofs.continued.ContinuedFiles.return_to_begin.Goals as goal

pub returns-clause-tails : goal.returns-clause-tails
returns-clause-tails g c = λ name count is.
    all-tail _ _ _ count (c.drop_known.ensures.none name is) (c.drop_lengths.ensures.none name is) refl

pub returns-clause-step : goal.returns-clause-step
returns-clause-step g c =
    returns _ _ (has c.args.names.now)
    (record {
      records = λ name. refl;
      safe = λ name. refl;
      unknown = c.drop_known.ensures.none;
      nameless = c.drop_lengths.ensures.none;
      known = c.drop_known.ensures.others;
      named = c.drop_lengths.ensures.others;
      unnamed = refl;
    })
