use Rattle.std.proofs.Common.{◌≡◌, drop}
use Rattle.continued_files.specs.Hashes.{hash_from}
use Rattle.continued_files.proofs.hashes.hash_of.Given as goal

-- The words that are left give the whole number.
abbrev pub invariant-loop-word : goal.invariant-loop-word
invariant-loop-word l = hash_from l.hash (drop l.word-index l.words) ≡ hash_from 14695981039346656037 l.words
