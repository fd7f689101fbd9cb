-- The numbers and names by which the program reports that it can't listen.
use Rattle.protocol.specs.declared.reason.Reason.{Reason}
use Rattle.protocol.specs.declared.reason.Reason.TheVariants as reason
use Rattle.ports_socket.specs.declared.fault.ListenFault.{ListenFault}
use Rattle.ports_socket.specs.declared.fault.ListenFault.TheVariants.{OutOfMemory, Listen}
use Rattle.ports_socket.specs.declared.fault.ListenError.{ListenError}
use Rattle.ports_socket.specs.declared.fault.ListenError.TheVariants as error

abbrev pub listen_reason : ListenFault → Reason
listen_reason OutOfMemory = reason.OutOfMemory
listen_reason Listen = reason.Listen

-- the fault, without what the system says
abbrev pub fault_of : ListenError → ListenFault
fault_of error.OutOfMemory = OutOfMemory
fault_of (error.Clients reason) = Listen
fault_of (error.Feeds reason) = Listen
