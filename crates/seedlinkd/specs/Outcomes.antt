-- What a job that was done came to, which words are a mistake, and the exit status.
use Rattle.std.specs.Prelude.{ℕ, Bool, not, true, false}
use Rattle.command_line.specs.declared.job.WordsFault.{WordsFault}
use Rattle.command_line.specs.declared.job.WordsFault.TheVariants.{OutOfMemory, Refused}
use Rattle.seedlinkd.specs.declared.work.Outcome.{Outcome}
use Rattle.seedlinkd.specs.declared.work.Outcome.TheVariants.{Done, Silent}

-- what a look at a server comes to, by whether a station is silent
abbrev pub outcome_of : Bool → Outcome
outcome_of true = Silent
outcome_of false = Done

-- the exit status
abbrev pub status_by : Outcome → ℕ
status_by Done = 0
status_by Silent = 3

-- the words of a command line are no job, and ask for no help
abbrev pub is_mistake : WordsFault → Bool
is_mistake OutOfMemory = false
is_mistake (Refused text is_help) = not is_help
