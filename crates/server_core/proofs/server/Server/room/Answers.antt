use Rattle.std.proofs.Common.{◌∙◌, ap, Some, Option, option_map}
use Rattle.session_state.specs.Sessions.{SessionValue, client_in}
use Rattle.server_core.specs.Refusals.{room_of}
use Rattle.server_core.proofs.SessionLemmas.{seen-by}
use Rattle.server_core.proofs.server.Server.room.Goals as goal

pub returns-in-Some : goal.returns-in-Some
returns-in-Some c = λ config w stands.
    ap Some c.room.ensures.value
    ∙ ap (λ (o : Option SessionValue). option_map room_of (option_map (client_in c.args.self.now.config w.history) o))
    c.in-Some.ensures
    ∙ ap (option_map room_of) (seen-by c.args.self.now c.args.client.now config w stands)

pub returns-in-None : goal.returns-in-None
returns-in-None c = λ config w stands.
    ap (λ (o : Option SessionValue). option_map room_of (option_map (client_in c.args.self.now.config w.history) o))
    c.in-None.ensures
    ∙ ap (option_map room_of) (seen-by c.args.self.now c.args.client.now config w stands)
