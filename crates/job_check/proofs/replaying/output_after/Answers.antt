use Rattle.std.proofs.Common.{◌∙◌, ap, map, List}
use Rattle.server_core.specs.Runs.{event_value, handed_value}
use Rattle.server_core.specs.declared.events.Handed.{Handed}
use Rattle.job_check.specs.Output.{output_after, written_of}
use Rattle.job_check.proofs.replaying.output_after.Goals as goal

pub returns : goal.returns
unfolding output_after
returns c =
    let es = map event_value c.args.events.now in
    record {
      ok =
          c.in_ok-output.ensures
          ∙ ap (λ (hs : List Handed). written_of c.args.style es (map handed_value hs)) c.as_slice.ensures.value
          ∙ ap (written_of c.args.style es) c.in_ok-takes.ensures.handed;
    }
