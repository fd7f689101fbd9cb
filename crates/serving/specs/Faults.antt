-- The number and the name by which the program reports a server that ended early.
use Rattle.protocol.specs.declared.reason.Reason.{Reason}
use Rattle.protocol.specs.declared.reason.Reason.TheVariants as reason
use Rattle.serving.specs.declared.faults.ServeFault.{ServeFault}
use Rattle.serving.specs.declared.faults.ServeFault.TheVariants.{OutOfMemory, Poll, Numbers}

-- what the program tells of it
abbrev pub serve_reason : ServeFault → Reason
serve_reason OutOfMemory = reason.OutOfMemory
serve_reason Poll = reason.Poll
serve_reason Numbers = reason.Numbers
