use Rattle.number_file.proofs.ComeBackLemmas.{numbers-back}
use Rattle.number_file.proofs.laws.numbers_come_back.Goals as goal

pub returns : goal.returns
returns c = λ numbers are. numbers-back numbers are.1 are.0
