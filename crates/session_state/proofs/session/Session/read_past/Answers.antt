use Rattle.std.proofs.Common.{◌∙◌, sym}
use Rattle.session_state.proofs.LineLemmas.{past-bye, past-other}
use Rattle.session_state.proofs.session.Session.read_past.Goals as goal

pub returns-then-is_leaving-clause-client : goal.returns-then-is_leaving-clause-client
returns-then-is_leaving-clause-client c =
    λ h. past-bye c.args.config.now h c.args.self.now _ _ c.args.next c.args.byte _ c.requires.transfer
    c.ask-instruction.ensures.line c.ask-instruction.ensures.leaving
    (sym c.is_leaving.ensures ∙ c.if-is_leaving.true) c.turn_to.ensures

pub returns-else-is_leaving-clause-client : goal.returns-else-is_leaving-clause-client
returns-else-is_leaving-clause-client c =
    λ h. past-other c.args.config.now h c.args.self.now _ c.args.next c.args.byte _ c.requires.transfer
    c.ask-instruction.ensures.line c.ask-instruction.ensures.leaving (sym c.is_leaving.ensures ∙ c.if-is_leaving.false)
