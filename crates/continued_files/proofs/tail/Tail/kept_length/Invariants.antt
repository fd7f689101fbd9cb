use Rattle.std.proofs.Common.{◌≡◌, ◌+◌, drop}
use Rattle.continued_files.specs.Tails.{first_left, kept_length}
use Rattle.continued_files.proofs.tail.Tail.kept_length.Given as goal

-- The first of those that are left is the first of all.
abbrev pub invariant-loop-at : goal.invariant-loop-at
invariant-loop-at l =
    first_left (l.self.tail.from + l.at) (drop l.at l.self.tail.left) l.count ≡ kept_length l.self.tail l.count
