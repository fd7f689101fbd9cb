use Rattle.std.proofs.Common.{◌∙◌, ap, None}
use Rattle.session_state.specs.declared.session.State.TheVariants.{Transfer}
use Rattle.session_state.specs.Sessions.{SessionValue}
use Rattle.session_state.proofs.ReceiveLemmas.{starts}
use Rattle.session_state.proofs.session.Session.enter.Goals as goal

pub returns-clause-client : goal.returns-clause-client
returns-clause-client c =
    λ config h firsts. starts config h c.args.self.now c.turn_to.new.self c.requires
    (c.turn_to.ensures
    ∙ ap (λ (s : SessionValue). record s { state = Transfer 0 }) c.forget_look.ensures
    ∙ ap (λ (s : SessionValue). record s { state = Transfer 0; looked = None }) c.tell.ensures) firsts
