use Rattle.memory_ports.specs.Made.{told}
use Rattle.memory_ports.proofs.PieceLemmas.{more_pieces, no_piece}
use Rattle.memory_ports.proofs.memory_ports.log.Log.+write_pieces.Goals as goal

pub returns-then-bytes-size-clause-call : goal.returns-then-bytes-size-clause-call
returns-then-bytes-size-clause-call t c =
    λ pieces is are.
    no_piece c.args.port c.args.size (told c.args.self.now) c.args.bytes.now pieces is are c.if-bytes-size.true

pub returns-clause-call : goal.returns-clause-call
returns-clause-call t c =
    λ pieces is are.
    more_pieces c.args.port c.args.size (told c.args.self.now) (told c.write_whole.new.self)
    (told c.write_pieces.new.self) c.args.bytes.now c.split_at.result.0.now c.split_at.result.1.now pieces
    c.requires.size c.if-bytes-size.false c.split_at.ensures.front c.split_at.ensures.back c.write_whole.ensures.call
    c.write_pieces.ensures.call is are
