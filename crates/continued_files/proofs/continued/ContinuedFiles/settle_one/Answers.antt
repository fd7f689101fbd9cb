use Rattle.std.proofs.Common.{arith}
use Rattle.std.proofs.lemmas.Map.Text.{text_keys}
use Rattle.continued_files.proofs.KnownLemmas.{settles-same}
use Rattle.continued_files.proofs.continued.ContinuedFiles.settle_one.Goals as goal

pub returns-in-Some-clause-others : goal.returns-in-Some-clause-others
returns-in-Some-clause-others g c = λ other differs. grind (arith, text_keys)

pub returns-in_default-clause-known : goal.returns-in_default-clause-known
returns-in_default-clause-known g c = settles-same _ _ (grind (arith, text_keys))
