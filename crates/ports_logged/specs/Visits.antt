-- Visits that are noted in a journal, and what ports took.
-- Journals are this project's own. Left out: when something is noted, and whether anybody reads it.
use Rattle.std.specs.Prelude.{◌≡◌, List, ◌++◌, Option, Some, None}
use Rattle.ports_logged.specs.declared.visit.Sent.{Sent}
use Rattle.ports_logged.specs.declared.visit.Visit.{Visit}

-- Those visits were noted between the two, where the journal tells them after it.
abbrev pub Notes : Option (List Visit) → Option (List Visit) → List Visit → Type 0
Notes old None visits = Unit {0}
Notes (Some before) (Some after) visits = after ≡ before ++ visits
Notes None (Some after) visits = ⊥

-- So much was taken between the two, where the journal tells it after it.
abbrev pub Passes : Option (List Sent) → Option (List Sent) → List Sent → Type 0
Passes old None sent = Unit {0}
Passes (Some before) (Some after) sent = after ≡ before ++ sent
Passes None (Some after) sent = ⊥
