use Rattle.std.proofs.Common.{refl}
use Rattle.server_core.specs.Clients.{addresses_of, sessions_of}
use Rattle.server_core.proofs.clients.Clients.new.Goals as goal

pub returns-clause-sessions : goal.returns-clause-sessions
unfolding sessions_of
returns-clause-sessions c = refl

pub returns-clause-addresses : goal.returns-clause-addresses
unfolding addresses_of
returns-clause-addresses c = refl
