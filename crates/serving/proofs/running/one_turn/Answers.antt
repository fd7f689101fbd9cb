use Rattle.std.proofs.Common.{refl, add-one}
use Rattle.serving.specs.Runs.OneTurn.{made, not_made}
use Rattle.serving.proofs.running.one_turn.Goals as goal

pub returns-in-Ok-clause-turn : goal.returns-in-Ok-clause-turn
returns-in-Ok-clause-turn g c = λ config w stands.
    made c.in-Ok.field-0 refl (c.in-Ok.ensures.ok config w stands) c.in-Ok.ensures.refused

pub returns-in-Err-clause-turn : goal.returns-in-Err-clause-turn
returns-in-Err-clause-turn g c = λ config w stands.
    not_made (add-one c.args.failures) (c.in-Err.ensures.failed config w stands) c.in-Err.ensures.refused
