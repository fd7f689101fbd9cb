use Rattle.std.proofs.Common.{◌≡◌, take}
use Rattle.access_list.proofs.list.are_same.Given as goal

abbrev pub invariant-loop-place : goal.invariant-loop-place
invariant-loop-place l = take l.place l.tokens ≡ take l.place l.others
