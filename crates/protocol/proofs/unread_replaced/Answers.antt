use Rattle.protocol.proofs.UnreadLemmas.{read_on-unread, read_on-step}
use Rattle.protocol.proofs.unread_replaced.Goals as goal

pub returns : goal.returns
returns c = record { before = λ v h unread bytes c. read_on-unread v h unread bytes c; step = read_on-step }
