use Rattle.std.proofs.Common.{ap, sym, ◌∙◌}
use Rattle.session_state.specs.NamedValues.{NamedValue}
use Rattle.session_state.proofs.NamedLemmas.{current-below}
use Rattle.session_state.proofs.ChoiceLemmas.{cleared}
use Rattle.session_state.proofs.named.Named.clear.Goals as goal

pub clear_at-requires : goal.clear_at-requires
clear_at-requires c = current-below _ _ _ _ c.in-Some.i _ c.self.invariant.0 c.self.view_is c.in-Some.is

pub returns-in-Some : goal.returns-in-Some
returns-in-Some c = λ config.
    cleared config c.args.self.now c.clear_at.new.self c.in-Some.i
    (ap (λ (x : NamedValue). x.current) (sym c.self.view_is) ∙ c.in-Some.is)
    (current-below _ _ _ _ c.in-Some.i _ c.self.invariant.0 c.self.view_is c.in-Some.is) c.clear_at.ensures
