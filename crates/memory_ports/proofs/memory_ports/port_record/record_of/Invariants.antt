use Rattle.std.proofs.Common.{◌≡◌, map, take}
use Rattle.memory_ports.specs.Made.{made_value}
use Rattle.memory_ports.specs.Records.{fresh, after_calls, record_value}
use Rattle.memory_ports.proofs.memory_ports.port_record.record_of.Given as goal

abbrev pub invariant-loop-made : goal.invariant-loop-made
invariant-loop-made l = record_value l.record ≡ after_calls l.port fresh (map made_value (take l.made-index l.calls))
