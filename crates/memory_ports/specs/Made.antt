-- The calls that ports in memory kept.
use Rattle.std.specs.Prelude.{ℕ, if◌then◌else◌, List, map, Option, Some, None}
use Rattle.memory_ports.specs.declared.memory_ports.log.Gave.{Gave}
use Rattle.memory_ports.specs.declared.memory_ports.log.Gave.TheVariants.{Piece, Nothing, TheEnd, Failure}
use Rattle.memory_ports.specs.declared.memory_ports.log.Made.{Made}
use Rattle.memory_ports.specs.declared.memory_ports.log.Made.TheVariants.{Next, Read, Write, Shut}
use Rattle.memory_ports.specs.declared.memory_ports.log.Decided.{Decided}
use Rattle.memory_ports.specs.declared.memory_ports.log.Log.{Log}
use Rattle.ports.specs.declared.decisions.Decision.{Decision}
use Rattle.ports.specs.Calls.{Given, Call}
use Rattle.ports.specs.Calls.Given.{Piece as GivenPiece, Nothing as GivenNothing, TheEnd as GivenTheEnd}
use Rattle.ports.specs.Calls.Given.{Failure as GivenFailure}
use Rattle.ports.specs.Calls.Call.{Next as CallNext, Read as CallRead, Write as CallWrite, Shut as CallShut}

-- what a read gave
abbrev pub gave_value : Gave → Given
gave_value (Piece bytes) = GivenPiece bytes.items
gave_value Nothing = GivenNothing
gave_value TheEnd = GivenTheEnd
gave_value Failure = GivenFailure

-- a call
abbrev pub made_value : Made → Call
made_value (Next answer) = CallNext answer
made_value (Read port most gave) = CallRead port most (gave_value gave)
made_value (Write port bytes answer) = CallWrite port bytes.items answer
made_value (Shut port) = CallShut port

-- all calls, unless one was lost
abbrev pub told : Log → Option (List Call)
told log = if log.lost then None else Some (map made_value log.made.items)

-- a decision
abbrev pub decided_value : Decided → ℕ × Decision
decided_value d = (d.port, d.decision)

-- all decisions, unless one was lost
abbrev pub decided_in : Log → Option (List (ℕ × Decision))
decided_in log = if log.is_undecided then None else Some (map decided_value log.decided.items)
