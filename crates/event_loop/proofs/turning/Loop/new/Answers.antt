-- The search finds this by itself. It is written down since the prover takes half a minute to offer an answer where
-- there is none, which a wrong body would wait for.
use Rattle.std.proofs.Common.{rules}
use Rattle.event_loop.proofs.turning.Loop.new.Goals as goal

pub returns-clause-server : goal.returns-clause-server
returns-clause-server g c = search rules

pub invariant_of-result : goal.invariant_of-result
invariant_of-result g c = c.new-seats.ensures.kept _
