use Rattle.std.proofs.Common.{◌∙◌}
use Rattle.continued_files.specs.Steps.{files_value}
use Rattle.record_archive.proofs.StepLemmas.{gives-up-below}
use Rattle.record_archive.proofs.archive.Archive+ContinuedFiles+F.give_up.Goals as goal

pub returns-clause-step : goal.returns-clause-step
returns-clause-step g c =
    let old = c.args.self.now.folders in
    let new = c.give_up.new.self in
    gives-up-below
    (files_value (g.F.RecordFiles.records old.files) (g.F.RecordFiles.safe old.files) old.all old.named.items
    old.unnamed)
    (files_value (g.F.RecordFiles.records new.files) (g.F.RecordFiles.safe new.files) new.all new.named.items
    new.unnamed)
    c.below.result.after c.below.result.text.now _ c.below.ensures.0
    (c.below.ensures.1 ∙ c.deref.ensures.value ∙ c.in_ok-text.ensures) c.give_up.ensures.step
