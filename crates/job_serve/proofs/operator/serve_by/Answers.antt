-- A server whose end is told as one of its polls has ended by that.
use Rattle.std.proofs.Common.{◌≡◌, ◌∙◌, sym, refl}
use Rattle.serving.specs.Faults.{serve_reason}
use Rattle.serving.specs.declared.faults.ServeFault.{ServeFault}
use Rattle.serving.specs.declared.faults.ServeFault.TheVariants as fault
use Rattle.protocol.specs.declared.reason.Reason.TheVariants as reason
use Rattle.job_serve.proofs.operator.serve_by.Goals as goal

by_polls : (it : ServeFault) → serve_reason it ≡ reason.Poll → it ≡ fault.Poll
by_polls fault.OutOfMemory e = absurd (cc)
by_polls fault.Poll e = refl
by_polls fault.Numbers e = absurd (cc)

pub returns-clause-ended : goal.returns-clause-ended
returns-clause-ended g c is =
    let ended = c.in-Err.ensures.ended (by_polls c.in-Err.fault (sym c.incident_of.ensures ∙ is)) in
    rw c.timetable_of-timetable.ensures at ended
