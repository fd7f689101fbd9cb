-- The numbers and names by which a listing of packets that stops is reported.
use Rattle.protocol.specs.declared.reason.Reason.{Reason}
use Rattle.protocol.specs.declared.reason.Reason.TheVariants as reason
use Rattle.slreader.specs.Faults.{reader_reason}
use Rattle.reader_run.specs.declared.fault.ListingFault.{ListingFault}
use Rattle.reader_run.specs.declared.fault.ListingFault.TheVariants.{Reader, Read, Write, State}

-- what the program tells of it
abbrev pub listing_reason : ListingFault → Reason
listing_reason (Reader fault) = reader_reason fault
listing_reason Read = reason.Read
listing_reason Write = reason.Write
listing_reason State = reason.State
