-- The reasons by which the program reports that a script was not replayed.
use Rattle.protocol.specs.declared.reason.Reason.{Reason}
use Rattle.protocol.specs.declared.reason.Reason.TheVariants as reason
use Rattle.sl_io.specs.Faults.{stream_reason}
use Rattle.job_check.specs.declared.replay_fault.ReplayFault.{ReplayFault}
use Rattle.job_check.specs.declared.replay_fault.ReplayFault.TheVariants.{Stream, Script}

abbrev pub replay_reason : ReplayFault → Reason
replay_reason (Stream fault) = stream_reason fault
replay_reason (Script line) = reason.Script
