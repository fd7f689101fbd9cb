use Rattle.protocol.proofs.Configs.{configurations_compared, same_accepted, views_compared}
use Rattle.protocol.proofs.configurations_compared.Goals as goal

pub returns : goal.returns
returns c = record { but_for_access = configurations_compared; accepted = same_accepted; views = views_compared }
