use Rattle.std.proofs.Common.{◌≡◌, ◌++◌, drop}
use Rattle.reader_state.specs.States.{text_of}
use Rattle.reader_state.proofs.writing.put_lines.Given as goal

-- What stands, with the lines that are to come, is the whole.
abbrev pub invariant-loop-last : goal.invariant-loop-last
invariant-loop-last l = l.text.items ++ text_of (drop l.last-index l.lasts) ≡ l.fn.text.items ++ text_of l.lasts
