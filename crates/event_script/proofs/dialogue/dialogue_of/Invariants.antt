use Rattle.std.proofs.Common.{◌≡◌, ◌≤◌, ◌++◌, map, drop}
use Rattle.server_core.specs.Runs.{event_value, handed_value}
use Rattle.event_script.specs.Dialogue.{dialogue_from, dialogue_of}
use Rattle.event_script.proofs.dialogue.dialogue_of.Given as goal

abbrev pub invariant-loop-event : goal.invariant-loop-event
invariant-loop-event l = record {
  count : l.opened ≤ l.event-index;
  lines : dialogue_of (map event_value l.events) (map handed_value l.takes)
      ≡ l.text.items
      ++ dialogue_from l.opened (map event_value (drop l.event-index l.events)) (map handed_value l.left);
}
