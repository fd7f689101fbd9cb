use Rattle.std.proofs.Common.{arith, ◌∙◌}
use Rattle.event_script.proofs.Takes.{output-more}
use Rattle.event_script.proofs.output.output_of.Goals as goal

pub loop-take-preserved : goal.loop-take-preserved
loop-take-preserved c =
    c.loop-take.invariant
    ∙ output-more c.args.takes.now c.loop-take.take-index c.take-item.result c.loop-take.text.items
    c.push_line.new.text.items (omega arith) c.take-item.is c.in_ok-push_line.ensures
