use Rattle.std.proofs.Common.{◌∙◌, List, Some, ap}
use Rattle.continued_files.specs.Lengths.{LengthValue}
use Rattle.slreader.specs.Lasts.{LastValue}
use Rattle.reader_state.specs.States.{StateValue, lasts_after, state_text}
use Rattle.reader_state.proofs.keeping.keep_state.Goals as goal

pub returns-in-Ok-replace-clause-kept : goal.returns-in-Ok-replace-clause-kept
returns-in-Ok-replace-clause-kept g c = λ text told. (
  c.in_ok-before.before,
  λ s is h. c.in_ok-before.ensures.back text told s is h,
  c.in-Ok-replace.ensures.replaced text (c.state_at.ensures.same ∙ told)
      ∙ ap Some (c.deref.ensures.value ∙ c.in-Ok.ensures.text
      ∙ ap (λ (ls : List LastValue).
      let v : StateValue = record {
        lasts = lasts_after c.args.tally.now c.args.wants.now ls;
        files = c.files_or-files.result.now;
      } in state_text v) c.lasts.ensures
      ∙ ap (λ (fs : List LengthValue).
      let v : StateValue = record {
        lasts = lasts_after c.args.tally.now c.args.wants.now c.in_ok-before.before.lasts;
        files = fs;
      } in state_text v) c.files_or-files.ensures),
)
