-- Why a text is no script: the numbers and names by which it is reported, and what a line is refused for.
use Rattle.std.specs.Prelude.{codes}
use Rattle.protocol.specs.declared.reason.Reason.{Reason}
use Rattle.protocol.specs.declared.reason.Reason.TheVariants as reason
use Rattle.catalog.specs.declared.fault.ConfigFault.{ConfigFault}
use Rattle.catalog.specs.declared.fault.ConfigFault.TheVariants as config
use Rattle.event_script.specs.declared.fault.ScriptFault.{ScriptFault}
use Rattle.event_script.specs.declared.fault.ScriptFault.TheVariants as script

-- what the program tells of a text that is no script
abbrev pub script_reason : ScriptFault → Reason
script_reason script.OutOfMemory = reason.OutOfMemory
script_reason script.Script = reason.Script

-- a text that is no configuration is no event of a line, memory aside
abbrev pub fault_of_text : ConfigFault → ScriptFault
fault_of_text config.OutOfMemory = script.OutOfMemory
fault_of_text _ = script.Script
