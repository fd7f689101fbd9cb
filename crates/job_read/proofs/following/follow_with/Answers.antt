-- The wants that are lent are those of the reading.
use Rattle.job_read.proofs.FollowsLemmas.{behind-of}
use Rattle.job_read.proofs.following.follow_with.Goals as goal

pub returns-clause-behind : goal.returns-clause-behind
returns-clause-behind g c = behind-of _ _ _ _ _ _ c.deref.ensures.value c.follow.ensures.behind
