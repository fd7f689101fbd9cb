use Rattle.std.proofs.Common.{◌∙◌, [], sym, ap}
use Rattle.protocol.specs.Client.{is_ending}
use Rattle.session_state.specs.Sessions.{client_in}
use Rattle.server_core.proofs.slots.offer.Goals as goal

pub returns-else-is_ending-clause-idle : goal.returns-else-is_ending-clause-idle
returns-else-is_ending-clause-idle c = λ idle.
    c.fill.ensures.idle (sym c.if-not-is_empty.ensures)
    (λ ends. let q = sym c.if-is_ending.false ∙ c.is_ending.ensures c.args.config.now []
    ∙ ap (λ t. is_ending (client_in c.args.config.now [] (record c.fill.new.session { state = t })).state) ends
    in absurd cc)
