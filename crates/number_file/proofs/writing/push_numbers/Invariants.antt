use Rattle.std.proofs.Common.{◌≡◌, ◌++◌, take}
use Rattle.number_file.specs.Text.{text_of}
use Rattle.number_file.proofs.writing.push_numbers.Given as goal

abbrev pub invariant-loop-number : goal.invariant-loop-number
invariant-loop-number l = l.text.items ≡ l.initial.text.items ++ text_of (take l.number-index l.numbers)
