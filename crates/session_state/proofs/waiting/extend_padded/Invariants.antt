use Rattle.std.proofs.Common.{◌≡◌, ◌≤◌, ◌-◌, ◌++◌, length, replicate}
use Rattle.session_state.proofs.waiting.extend_padded.Given as goal

-- So many spaces stand behind the text.
abbrev pub invariant-loop : goal.invariant-loop
invariant-loop l = (l.out ≡ (l.fn.out ++ l.text) ++ replicate (l.counter - length l.text) 32)
    × (length l.text ≤ l.counter) × (l.counter ≤ l.width)
