use Rattle.std.proofs.Common.{◌≡◌, ◌++◌, drop}
use Rattle.reader_state.specs.States.{one_each, text_of}
use Rattle.reader_state.proofs.writing.put_each.Given as goal

-- What stands, with the lines that are to come, is the whole.
abbrev pub invariant-loop-place : goal.invariant-loop-place
invariant-loop-place l =
    l.text.items ++ text_of (one_each (drop l.place l.lasts)) ≡ l.fn.text.items ++ text_of (one_each l.lasts)
