-- The search finds this by itself. It is written down since the prover takes a minute to offer an answer where there is
-- none, which a wrong body would wait for.
use Rattle.std.proofs.Common.{rules}
use Rattle.job_check.proofs.replaying.replay.Goals as goal

pub returns-clause-write : goal.returns-clause-write
returns-clause-write c = search rules

pub returns-in-Ok-write_all-clause-ok : goal.returns-in-Ok-write_all-clause-ok
returns-in-Ok-write_all-clause-ok c = search rules
