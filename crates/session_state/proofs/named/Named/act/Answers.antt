use Rattle.std.proofs.Common.{ap, sym, ◌∙◌}
use Rattle.session_state.specs.NamedValues.{NamedValue}
use Rattle.session_state.proofs.NamedLemmas.{current-below}
use Rattle.session_state.proofs.ChoiceLemmas.{acted}
use Rattle.session_state.proofs.named.Named.act.Goals as goal

pub act_for-requires : goal.act_for-requires
act_for-requires c = current-below _ _ _ _ c.in-Some.i _ c.self.invariant.0 c.self.view_is c.in-Some.is

pub returns-in-Some : goal.returns-in-Some
returns-in-Some c = λ config.
    acted config c.args.self.now c.act_for.new.self c.in-Some.i c.args.action
    (ap (λ (x : NamedValue). x.current) (sym c.self.view_is) ∙ c.in-Some.is)
    (current-below _ _ _ _ c.in-Some.i _ c.self.invariant.0 c.self.view_is c.in-Some.is) c.act_for.ensures
