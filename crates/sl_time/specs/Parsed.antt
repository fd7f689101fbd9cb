-- What the text of a command's time is read as.
use Rattle.std.specs.Prelude.{ℕ, List, ℤ, Option, Some, None, Result, Err, codes}
use Rattle.std.specs.Option.{ok_or}
use Rattle.protocol.specs.declared.reason.Reason.{Reason}
use Rattle.protocol.specs.declared.reason.Reason.TheVariants as reason
use Rattle.protocol.specs.Time.{CivilTime, civil_of, civil_tick}
use Rattle.sl_time.specs.declared.command.TimeFault.{TimeFault}
use Rattle.sl_time.specs.declared.command.TimeFault.TheVariants.{Shape, Range}

-- the ticks of a civil time
abbrev pub tick_or_fault : Option CivilTime → Result ℤ TimeFault
tick_or_fault None = Err Shape
tick_or_fault (Some t) = ok_or (civil_tick t) Range

-- the ticks that a text spells, or why it spells none
abbrev pub parsed : List ℕ → Result ℤ TimeFault
parsed text = tick_or_fault (civil_of text)

abbrev pub time_reason : TimeFault → Reason
time_reason Shape = reason.Shape
time_reason Range = reason.Range
