-- The numbers and names by which a reader that stops is reported.
use Rattle.protocol.specs.declared.reason.Reason.{Reason}
use Rattle.protocol.specs.declared.reason.Reason.TheVariants as reason
use Rattle.slreader.specs.declared.fault.ReaderFault.{ReaderFault}
use Rattle.slreader.specs.declared.fault.ReaderFault.TheVariants.{NotAPacket, Limit, OutOfMemory, AllRefused, BadReply}

-- what the program tells of it
abbrev pub reader_reason : ReaderFault → Reason
reader_reason NotAPacket = reason.NotAPacket
reader_reason Limit = reason.Limit
reader_reason OutOfMemory = reason.OutOfMemory
reader_reason AllRefused = reason.AllRefused
reader_reason BadReply = reason.BadReply
