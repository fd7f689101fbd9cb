-- What a command that was read asks, whose texts are lent by a line.
-- SeedLink 3, commands.
use Rattle.std.specs.Option.{option_copied}
use Rattle.protocol.specs.Command.{Command as ProtocolCommand}
use Rattle.protocol.specs.Command.Command.{Blank as BlankCommand, Hello as HelloCommand, Cat as CatCommand}
use Rattle.protocol.specs.Command.Command.{Bye as ByeCommand, End as EndCommand, Station as StationCommand}
use Rattle.protocol.specs.Command.Command.{Select as SelectCommand, Data as DataCommand, Fetch as FetchCommand}
use Rattle.protocol.specs.Command.Command.{Time as TimeCommand, Bad as BadCommand}
use Rattle.sl_lines.specs.declared.actions.Action.{Action}
use Rattle.sl_lines.specs.declared.actions.Action.TheVariants.{Data, Fetch, Time}
use Rattle.sl_lines.specs.declared.commands.Command.{Command}
use Rattle.sl_lines.specs.declared.commands.Command.TheVariants.{Blank, Hello, Cat, Bye, End, Station, Select, Act, Bad}

-- the command that asks for an action, whose numbers and times are seen as those of a command already
abbrev pub action_command : Action → ProtocolCommand
action_command (Data number begin) = DataCommand number begin
action_command (Fetch number begin) = FetchCommand number begin
action_command (Time begin last) = TimeCommand begin last

-- what a command that was read asks
abbrev pub command_value : Command → ProtocolCommand
command_value Blank = BlankCommand
command_value Hello = HelloCommand
command_value Cat = CatCommand
command_value Bye = ByeCommand
command_value End = EndCommand
command_value (Station station network) = StationCommand station.now (option_copied network)
command_value (Select pattern) = SelectCommand (option_copied pattern)
command_value (Act action) = action_command action
command_value Bad = BadCommand
