use Rattle.std.proofs.Common.{length}
use Rattle.session_state.specs.Sessions.{ReadsOnAs}
use Rattle.session_state.proofs.session.Session.settle.Given as goal

-- What is left will be read as all of it would have been.
abbrev pub invariant-loop-self : goal.invariant-loop-self
invariant-loop-self l = ReadsOnAs l.config l.self l.fn.self

abbrev pub decreases-loop-self : goal.decreases-loop-self
decreases-loop-self l = length l.self.unread
