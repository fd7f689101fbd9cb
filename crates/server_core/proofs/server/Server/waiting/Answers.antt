use Rattle.std.proofs.Common.{◌≡◌, ◌∙◌, ap, Some, None, Option, option_map}
use Rattle.protocol.specs.Client.{Client}
use Rattle.session_state.specs.Sessions.{SessionValue, client_in}
use Rattle.server_core.proofs.SessionLemmas.{seen-by}
use Rattle.server_core.proofs.SlotLemmas.{index-of}
use Rattle.server_core.proofs.server.Server.waiting.Goals as goal

pub returns-in-Some-clause-answer : goal.returns-in-Some-clause-answer
returns-in-Some-clause-answer c = λ config w stands.
    ap Some c.waiting.ensures
    ∙ ap
    (λ (o : Option SessionValue). option_map (λ (x : Client). x.waiting)
    (option_map (client_in c.args.self.now.config w.history) o)) c.in-Some.ensures
    ∙ ap (option_map (λ (x : Client). x.waiting)) (seen-by c.args.self.now c.args.client.now config w stands)

pub returns-in-None-clause-session : goal.returns-in-None-clause-session
returns-in-None-clause-session c = λ s there.
    let none : None ≡ Some s = c.in-None.ensures
    ∙ index-of c.args.self.now.sessions c.args.client.now None (Some (Some s)) there in
    absurd cc

pub returns-in-None-clause-answer : goal.returns-in-None-clause-answer
returns-in-None-clause-answer c = λ config w stands.
    ap
    (λ (o : Option SessionValue). option_map (λ (x : Client). x.waiting)
    (option_map (client_in c.args.self.now.config w.history) o)) c.in-None.ensures
    ∙ ap (option_map (λ (x : Client). x.waiting)) (seen-by c.args.self.now c.args.client.now config w stands)
