use Rattle.std.proofs.Common.{◌≡◌, ◌≤◌, ◌-◌, ◌++◌, length, replicate}
use Rattle.config_explained.proofs.lines.put_padded.Given as goal

-- So many spaces stand behind the code.
abbrev pub invariant-loop : goal.invariant-loop
invariant-loop l = (l.text.items ≡ (l.fn.text.items ++ l.code) ++ replicate (l.counter - length l.code) 32)
    × (length l.code ≤ l.counter) × (l.counter ≤ l.width)
