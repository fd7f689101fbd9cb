use Rattle.std.proofs.Common.{◌≡◌, ◌++◌, take, flat_map}
use Rattle.status_page.specs.Escapes.{escaped_byte}
use Rattle.status_page.proofs.escape.put_escaped.Given as goal

abbrev pub invariant-loop-byte : goal.invariant-loop-byte
invariant-loop-byte l = l.text.items ≡ l.fn.text.items
    ++ flat_map (escaped_byte l.language) (take l.byte-index l.bytes)
