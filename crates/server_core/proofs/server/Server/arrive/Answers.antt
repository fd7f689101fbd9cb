use Rattle.std.proofs.Common.{◌≡◌, Err, subst}
use Rattle.protocol.specs.Record.{header_of}
use Rattle.server_core.specs.Arrivals.{placed_by}
use Rattle.server_core.specs.ServerValues.{ServerValue}
use Rattle.server_core.proofs.ArriveLemmas.{refused-stands}
use Rattle.server_core.proofs.server.Server.arrive.Goals as goal

pub returns-in_err-placing-clause-stands : goal.returns-in_err-placing-clause-stands
returns-in_err-placing-clause-stands c = λ differs config w stands.
    refused-stands c.args.self.now c.args.bytes.now c.in_err-placing.field-0.0
    (subst (λ (s : ServerValue). placed_by s.config (header_of c.args.bytes.now) ≡ Err c.in_err-placing.field-0.0)
    c.self.view_is c.in_err-placing.ensures.err) config w stands
