-- What stopped the taking of a record stopped the giving of its packet.
use Rattle.std.proofs.Common.{ap}
use Rattle.std.proofs.lemmas.Result.{IfErr-weaker}
use Rattle.slreader.specs.Whats.{what_value}
use Rattle.reader_run.proofs.WaitLaws.{given-taken}
use Rattle.reader_run.proofs.pieces.put.Goals as goal

pub returns-in-Packet-clause-stopped : goal.returns-in-Packet-clause-stopped
returns-in-Packet-clause-stopped g c =
    IfErr-weaker c.put_packet.result _ _
    (λ fault stopped. given-taken fault _ _ _ _ _ _ _ _ _ _ (ap what_value c.in-Packet.is) stopped)
    c.put_packet.ensures.stopped
