use Rattle.std.proofs.Common.{subst}
use Rattle.session_state.specs.declared.choices.Ahead.{Ahead}
use Rattle.session_state.specs.Entries.{TellsAhead}
use Rattle.session_state.proofs.OrderChangeLemmas.{quiet}
use Rattle.session_state.proofs.order.earliest.Goals as goal

pub returns-in-Nobody : goal.returns-in-Nobody
returns-in-Nobody c =
    quiet c.args.entries.now
    (subst (λ (a : Ahead). TellsAhead a c.args.entries.now) c.in-Nobody.is c.requires.tells)
