-- What the parts of a command say, from its words to the command: for the private steps between a line and a command.
-- SeedLink 3, commands.
use Rattle.std.specs.Prelude.{◌≡◌, ℕ, ℤ, List, [], ◌∷◌, Option, Some, None}
use Rattle.protocol.specs.Command.{Command, alone, station_command, select_command, numbered, timed}
use Rattle.protocol.specs.Command.Command.{Hello as HelloCommand, Cat as CatCommand, Bye as ByeCommand}
use Rattle.protocol.specs.Command.Command.{End as EndCommand, Data as DataCommand, Fetch as FetchCommand}
use Rattle.protocol.specs.Command.Command.{Time as TimeCommand, Bad as BadCommand}
use Rattle.sl_lines.specs.declared.parsing.Arguments.{Arguments}
use Rattle.sl_lines.specs.declared.parsing.Arguments.TheVariants.{Nothing, One, Two, More}
use Rattle.sl_lines.specs.declared.parsing.Name.{Name}
use Rattle.sl_lines.specs.declared.parsing.Name.TheVariants.{Hello, Cat, Bye, End, Station, Select, Data, Fetch, Time}
use Rattle.sl_lines.specs.declared.parsing.Resumption.{Resumption}
use Rattle.sl_lines.specs.declared.parsing.Interval.{Interval}

-- These are all the words, or there are three and more.
abbrev pub AreWords : Arguments → List (List ℕ) → Type 0
AreWords Nothing ws = ws ≡ []
AreWords (One first) ws = ws ≡ first.now ∷ []
AreWords (Two first second) ws = ws ≡ first.now ∷ second.now ∷ []
AreWords More ws = (first second third : List ℕ) × (more : List (List ℕ)) × (ws ≡ first ∷ second ∷ third ∷ more)

-- the command of that name with those words behind it
abbrev pub command_by : Option Name → List (List ℕ) → Command
command_by (Some Hello) ws = alone HelloCommand ws
command_by (Some Cat) ws = alone CatCommand ws
command_by (Some Bye) ws = alone ByeCommand ws
command_by (Some End) ws = alone EndCommand ws
command_by (Some Station) ws = station_command ws
command_by (Some Select) ws = select_command ws
command_by (Some Data) ws = numbered DataCommand ws
command_by (Some Fetch) ws = numbered FetchCommand ws
command_by (Some Time) ws = timed ws
command_by None ws = BadCommand

-- the command that goes on from there; it is Bad where the words say no place
abbrev pub resuming : (Option ℕ → Option ℤ → Command) → Option Resumption → Command
resuming make (Some r) = make r.number r.begin
resuming make None = BadCommand

-- the command for what lies between
abbrev pub between : Option Interval → Command
between (Some i) = TimeCommand i.begin i.last
between None = BadCommand
