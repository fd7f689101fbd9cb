use Rattle.std.proofs.Common.{◌≡◌, ◌++◌, filter, take}
use Rattle.number_file.specs.Tables.{is_of_another}
use Rattle.number_file.proofs.table.add_others.Given as goal

abbrev pub invariant-loop-number : goal.invariant-loop-number
invariant-loop-number l =
    l.numbers.items ≡ l.initial.numbers.items ++ filter (is_of_another l.config) (take l.number-index l.kept)
