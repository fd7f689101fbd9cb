use Rattle.std.proofs.Common.{◌≡◌, ◌++◌, map, take}
use Rattle.config_explained.specs.ShownKeys.{shown}
use Rattle.config_explained.proofs.shown_keys.put_key.Given as goal

abbrev pub invariant-loop-byte : goal.invariant-loop-byte
invariant-loop-byte l = l.text.items ≡ l.fn.text.items ++ map shown (take l.byte-index l.key)
