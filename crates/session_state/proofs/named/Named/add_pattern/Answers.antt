use Rattle.std.proofs.Common.{ap, sym, ◌∙◌}
use Rattle.session_state.specs.NamedValues.{NamedValue}
use Rattle.session_state.proofs.NamedLemmas.{current-below}
use Rattle.session_state.proofs.ChoiceLemmas.{added}
use Rattle.session_state.proofs.named.Named.add_pattern.Goals as goal

pub add_at-requires : goal.add_at-requires
add_at-requires c = current-below _ _ _ _ c.in-Some.i _ c.self.invariant.0 c.self.view_is c.in-Some.is

pub returns-in-Some : goal.returns-in-Some
returns-in-Some c = λ config.
    added config c.args.self.now c.add_at.new.self c.in-Some.i c.args.pattern c.add_at.result
    (ap (λ (x : NamedValue). x.current) (sym c.self.view_is) ∙ c.in-Some.is)
    (current-below _ _ _ _ c.in-Some.i _ c.self.invariant.0 c.self.view_is c.in-Some.is) c.add_at.ensures.new
    c.add_at.ensures.change
