-- What a line asks of a session.
-- SeedLink 3, commands.
use Rattle.std.specs.Prelude.{Bool, true, false, List, [], ◌∷◌, Some, None}
use Rattle.protocol.specs.Catalog.{Config, View}
use Rattle.protocol.specs.Lines.{Line}
use Rattle.protocol.specs.Command.{Command, command_of}
use Rattle.protocol.specs.Command.Command.{Bye}
use Rattle.protocol.specs.Session.{Negotiated, Outcome, outcome_of, error_line, greeting, act, choices_of}
use Rattle.protocol.specs.Session.{choose_station, end_multi, select}
use Rattle.protocol.specs.Session.Outcome.{Stays, Lists, Ends}
use Rattle.catalog.specs.Places.{station_at}
use Rattle.session_state.specs.declared.session.reading.Instruction.{Instruction}
use Rattle.session_state.specs.declared.session.reading.Instruction.TheVariants.{Nothing, Greeting, Listing, Leaving}
use Rattle.session_state.specs.declared.session.reading.Instruction.TheVariants.{Name, Unseen, Clear}
use Rattle.session_state.specs.declared.session.reading.Instruction.TheVariants.{Add, Act, Finish, Refused}
use Rattle.session_state.specs.Choices.{action_value}
use Rattle.session_state.specs.Changes.{selecting}

-- what comes of what is asked, by what was negotiated
abbrev pub outcome_by : Config → View → Negotiated → Instruction → Outcome
outcome_by config v n Nothing = Stays [] n
outcome_by config v n Greeting = Stays (greeting v) n
outcome_by config v n Listing = Lists
outcome_by config v n Leaving = Ends
outcome_by config v n (Name place) = choose_station (choices_of n) (Some (station_at config.entries place))
outcome_by config v n (Unseen asked) = choose_station (choices_of n) None
outcome_by config v n Clear = select n None
outcome_by config v n (Add pattern) = selecting n (Some pattern)
outcome_by config v n (Act action) = act v n (action_value action)
outcome_by config v n Finish = end_multi n
outcome_by config v n Refused = Stays error_line n

-- what comes of the line that a byte ends, or of none
abbrev pub outcome_of_lines : View → Negotiated → List Line → Outcome
outcome_of_lines v n [] = Stays [] n
outcome_of_lines v n (line ∷ lines) = outcome_of v n (command_of line)

-- The command is BYE.
abbrev pub is_bye : Command → Bool
is_bye Bye = true
is_bye _ = false

-- the same of the line that a byte ends
abbrev pub says_bye : List Line → Bool
says_bye [] = false
says_bye (line ∷ lines) = is_bye (command_of line)

-- the same of what is asked
abbrev pub is_leaving : Instruction → Bool
is_leaving Leaving = true
is_leaving _ = false
