use Rattle.std.proofs.Common.{ap}
use Rattle.session_state.specs.NamedValues.{NamedValue, blank}
use Rattle.session_state.proofs.negotiation.Negotiation.new.Goals as goal

pub invariant_of-result : goal.invariant_of-result
invariant_of-result c = λ e. record { choice = blank; alone = ap (λ (n : NamedValue). n.choices) c.in_ok-new.ensures }
