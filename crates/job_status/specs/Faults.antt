-- The reasons by which the program reports that a status port's answer was not taken.
use Rattle.protocol.specs.declared.reason.Reason.{Reason}
use Rattle.protocol.specs.declared.reason.Reason.TheVariants as reason
use Rattle.job_status.specs.declared.status_fault.StatusFault.{StatusFault}
use Rattle.job_status.specs.declared.status_fault.StatusFault.TheVariants.{Quiet, Closed, Ended, Other}

abbrev pub status_reason : StatusFault → Reason
status_reason Quiet = reason.Read
status_reason Closed = reason.Read
status_reason Ended = reason.Read
status_reason Other = reason.BadReply
