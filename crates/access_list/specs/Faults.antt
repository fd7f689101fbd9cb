-- The numbers and names by which the program reports why a text is no list of addresses and masks.
use Rattle.std.specs.Prelude.{codes}
use Rattle.protocol.specs.declared.reason.Reason.{Reason}
use Rattle.protocol.specs.declared.reason.Reason.TheVariants as reason
use Rattle.access_list.specs.declared.fault.AccessFault.{AccessFault}
use Rattle.access_list.specs.declared.fault.AccessFault.TheVariants.{Address, Mask, OutOfMemory}

abbrev pub access_reason : AccessFault → Reason
access_reason Address = reason.Address
access_reason Mask = reason.Mask
access_reason OutOfMemory = reason.OutOfMemory
