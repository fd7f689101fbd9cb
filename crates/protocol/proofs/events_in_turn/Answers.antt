use Rattle.protocol.proofs.Connections.{config_after-append, world_from-append, handed_from-append}
use Rattle.protocol.proofs.events_in_turn.Goals as goal

pub returns : goal.returns
returns c = record { config = config_after-append; world = world_from-append; handed = handed_from-append }
