use Rattle.protocol.proofs.ReasonLemmas.{number_found, one_number, one_name}
use Rattle.protocol.proofs.reasons_told.Goals as goal

pub returns : goal.returns
returns c = record { numbers = one_number; names = one_name; found = number_found }
