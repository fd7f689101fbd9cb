-- The numbers and names by which the program reports why a text is no configuration.
use Rattle.std.specs.Prelude.{Option, Some, None}
use Rattle.protocol.specs.declared.reason.Reason.{Reason}
use Rattle.protocol.specs.declared.reason.Reason.TheVariants as reason
use Rattle.access_list.specs.declared.fault.AccessFault.{AccessFault}
use Rattle.catalog.specs.declared.fault.ConfigFault.{ConfigFault}
use Rattle.catalog.specs.declared.fault.ConfigFault.TheVariants.{Toml, Missing, Limit, Duplicate, Access, OutOfMemory}

-- what the program tells of it
abbrev pub config_reason : ConfigFault → Reason
config_reason Toml = reason.Toml
config_reason Missing = reason.Missing
config_reason Limit = reason.Limit
config_reason Duplicate = reason.Duplicate
config_reason (Access cause) = reason.Access
config_reason OutOfMemory = reason.OutOfMemory

-- why an access text is refused, where that is the fault
abbrev pub fault_cause : ConfigFault → Option AccessFault
fault_cause (Access cause) = Some cause
fault_cause _ = None
