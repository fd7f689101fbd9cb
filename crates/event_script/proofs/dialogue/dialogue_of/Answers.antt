use Rattle.std.proofs.Common.{◌∙◌}
use Rattle.event_script.proofs.DialogueLemmas.{dialogue_more, opened_at_most}
use Rattle.event_script.proofs.dialogue.dialogue_of.Goals as goal

pub loop-event-preserved : goal.loop-event-preserved
loop-event-preserved c = record {
  count =
      opened_at_most c.loop-event.opened c.opened_after-opened.result c.loop-event.event-index c.event-item.result
      c.loop-event.invariant.count c.opened_after-opened.ensures;
  lines =
      c.loop-event.invariant.lines
      ∙ dialogue_more c.args.events.now c.loop-event.event-index c.event-item.result _ _ _ _ _ _ c.loop-event-test.true
      c.event-item.is c.in_ok-put_event.ensures c.opened_after-opened.ensures c.takes_after-left.ensures;
}
