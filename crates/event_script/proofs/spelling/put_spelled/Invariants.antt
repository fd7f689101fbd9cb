use Rattle.std.proofs.Common.{◌≡◌, ◌++◌, take}
use Rattle.event_script.specs.Spelling.{spelled}
use Rattle.event_script.proofs.spelling.put_spelled.Given as goal

abbrev pub invariant-loop-byte : goal.invariant-loop-byte
invariant-loop-byte l = l.text.items ≡ l.fn.text.items ++ spelled (take l.byte-index l.bytes)
