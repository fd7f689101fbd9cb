use Rattle.std.proofs.Common.{◌≡◌, take}
use Rattle.number_file.specs.Tables.{with_nexts}
use Rattle.serving.specs.Ahead.{ahead_of}
use Rattle.job_serve.proofs.numbers.set_numbers.Given as goal

abbrev pub invariant-loop-place : goal.invariant-loop-place
invariant-loop-place l = l.table ≡ with_nexts l.initial.table (take l.place (ahead_of l.numbers))
