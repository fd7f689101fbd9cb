use Rattle.std.proofs.Common.{length}
use Rattle.memory_ports.proofs.memory_ports.log.Log.+write_pieces.Given as goal

abbrev pub decreases-write_pieces : goal.decreases-write_pieces
decreases-write_pieces l = length l.bytes.now
