-- The numbers and names by which the program reports a reading that stopped early, and bytes that didn't get from an
-- input to an output.
use Rattle.std.specs.Prelude.{codes}
use Rattle.protocol.specs.declared.reason.Reason.{Reason}
use Rattle.protocol.specs.declared.reason.Reason.TheVariants as reason
use Rattle.sl_io.specs.declared.faults.ReadFault.{ReadFault}
use Rattle.sl_io.specs.declared.faults.ReadFault.TheVariants as read
use Rattle.sl_io.specs.declared.faults.StreamFault.{StreamFault}
use Rattle.sl_io.specs.declared.faults.StreamFault.TheVariants as stream

-- what the program tells of a reading that stopped early
abbrev pub read_reason : ReadFault → Reason
read_reason read.OutOfMemory = reason.OutOfMemory
read_reason read.Read = reason.Read

-- what the program tells of an input that didn't get to its output
abbrev pub stream_reason : StreamFault → Reason
stream_reason stream.OutOfMemory = reason.OutOfMemory
stream_reason stream.Read = reason.Read
stream_reason stream.Write = reason.Write

-- the same, where it was the reading that stopped
abbrev pub stream_of : ReadFault → StreamFault
stream_of read.OutOfMemory = stream.OutOfMemory
stream_of read.Read = stream.Read
