-- Why the reading of servers stops.
use Rattle.std.specs.Prelude.{List, Option, ◌⊎◌}
use Rattle.reader_run.specs.declared.following.Break.{Break}
use Rattle.reader_run.specs.declared.following.Break.TheVariants.{Listing, Server}
use Rattle.reader_run.specs.Calls.{Call}
use Rattle.reader_run.specs.Visits.{Asking, BreaksLast, FailsAfter, ManyVisits, Progress, StopsLast}

-- what was done before
abbrev pub StopsVisits : {F : Type 0} → Break F → Asking → (p p' : Progress) → (told told' : Option (List (Call F)))
    → Type 0
StopsVisits (Listing fault) a p p' told told' = StopsLast fault a p p' told told' ⊎ ManyVisits fault a p p' told told'
StopsVisits (Server fault) a p p' told told' = FailsAfter fault a p p' told told' ⊎ BreaksLast fault a p p' told told'
