use Rattle.continued_files.specs.Known.{known_at}
use Rattle.continued_files.proofs.KnownLemmas.{ToldNamed}
use Rattle.continued_files.proofs.continued.ContinuedFiles.lengths.Given as goal

-- Those that were pushed, and those that are named behind them, are what is told of all.
abbrev pub invariant-loop-length : goal.invariant-loop-length
invariant-loop-length g l = ToldNamed (λ name. known_at l.self.all name) l.self.named.items l.lengths.items l.length-index
