use Rattle.continued_files.specs.Known.Settles.{Ends, Stays}
use Rattle.continued_files.proofs.known.Known.settle.Goals as goal

pub returns-then-is_over : goal.returns-then-is_over
returns-then-is_over c =
    Ends _ _ (record { given = c.give_up.ensures; none = c.is_over.ensures c.if-is_over.true })

pub returns-else-is_over : goal.returns-else-is_over
returns-else-is_over c = Stays _
