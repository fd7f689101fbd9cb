use Rattle.std.proofs.Common.{◌∙◌}
use Rattle.record_archive.proofs.StepLemmas.{returns-below}
use Rattle.record_archive.proofs.archive.Archive+ContinuedFiles+F.return_to_begin.Goals as goal

pub returns-clause-step : goal.returns-clause-step
returns-clause-step g c =
    returns-below _ _ c.below.result.after c.below.result.text.now _ c.below.ensures.0
    (c.below.ensures.1 ∙ c.deref.ensures.value ∙ c.in_ok-text.ensures) c.return_to_begin.ensures.step
