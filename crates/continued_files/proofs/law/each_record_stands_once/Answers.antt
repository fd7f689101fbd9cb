use Rattle.continued_files.proofs.RunLemmas.{holds-once}
use Rattle.continued_files.proofs.law.each_record_stands_once.Goals as goal

pub returns : goal.returns
returns c = λ s m reaches. holds-once s m reaches
