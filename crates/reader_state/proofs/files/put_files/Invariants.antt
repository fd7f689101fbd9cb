use Rattle.std.proofs.Common.{◌≡◌, ◌++◌, drop}
use Rattle.reader_state.specs.States.{files_text}
use Rattle.reader_state.proofs.files.put_files.Given as goal

-- What stands, with the lines that are to come, is the whole.
abbrev pub invariant-loop-file : goal.invariant-loop-file
invariant-loop-file l = l.text.items ++ files_text (drop l.file-index l.files) ≡ l.fn.text.items ++ files_text l.files
