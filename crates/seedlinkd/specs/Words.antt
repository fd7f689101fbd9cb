-- How a replay writes, and which stations a status has, by the words of a command line.
use Rattle.std.specs.Prelude.{Bool, true, false}
use Rattle.job_check.specs.declared.replaying.ReplayStyle.{ReplayStyle}
use Rattle.job_check.specs.declared.replaying.ReplayStyle.TheVariants.{Hexadecimal, Dialogue}
use Rattle.job_status.specs.declared.asking.Stations.{Stations}
use Rattle.job_status.specs.declared.asking.Stations.TheVariants.{All, Silent}

-- how a replay writes what happens, by whether `--text` was given
abbrev pub style_by : Bool → ReplayStyle
style_by false = Hexadecimal
style_by true = Dialogue

-- which stations of a server are told, by whether `--silent` was given
abbrev pub stations_by : Bool → Stations
stations_by false = All
stations_by true = Silent
