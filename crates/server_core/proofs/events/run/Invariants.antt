use Rattle.server_core.proofs.RunLemmas.{GoesWell}
use Rattle.std.proofs.Common.{drop, map}
use Rattle.server_core.specs.Runs.{event_value, handed_value}
use Rattle.server_core.proofs.events.run.Given as goal

abbrev pub invariant-loop-event : goal.invariant-loop-event
invariant-loop-event l = GoesWell l.fn.config l.server (map handed_value l.out.items) (map event_value l.events)
    (map event_value (drop l.event-index l.events))
