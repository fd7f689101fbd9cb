use Rattle.std.proofs.Common.{◌≡◌, ◌++◌, map, drop}
use Rattle.server_core.specs.Runs.{handed_value}
use Rattle.event_script.specs.Output.{output_of}
use Rattle.event_script.proofs.output.output_of.Given as goal

abbrev pub invariant-loop-take : goal.invariant-loop-take
invariant-loop-take l = output_of (map handed_value l.takes)
    ≡ l.text.items ++ output_of (map handed_value (drop l.take-index l.takes))
