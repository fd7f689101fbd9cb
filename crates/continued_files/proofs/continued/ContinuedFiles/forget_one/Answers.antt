use Rattle.std.proofs.Common.{arith}
use Rattle.std.proofs.lemmas.Map.Text.{text_keys}
use Rattle.continued_files.proofs.continued.ContinuedFiles.forget_one.Goals as goal

pub returns-clause-known : goal.returns-clause-known
returns-clause-known g c = λ other differs. (grind (arith, text_keys), c.drop_named.ensures.others other differs)
