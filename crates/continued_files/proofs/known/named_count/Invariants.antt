use Rattle.std.proofs.Common.{◌≡◌, drop}
use Rattle.continued_files.specs.Known.{length_of}
use Rattle.continued_files.proofs.known.named_count.Given as goal

-- The first of those that are left is the first of all.
abbrev pub invariant-loop-length : goal.invariant-loop-length
invariant-loop-length l = length_of (drop l.length-index l.named) l.name ≡ length_of l.named l.name
