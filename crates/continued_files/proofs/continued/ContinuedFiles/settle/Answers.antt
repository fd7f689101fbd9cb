use Rattle.continued_files.proofs.KnownLemmas.{settles-indexes, settles-tails}
use Rattle.continued_files.proofs.continued.ContinuedFiles.settle.Goals as goal

pub returns-in-Some-clause-indexed : goal.returns-in-Some-clause-indexed
returns-in-Some-clause-indexed g c =
    settles-indexes c.deref.result.now c.args.self.now.all c.settle_one.new.self.all c.settle_one.ensures.known
    c.settle_one.ensures.others
