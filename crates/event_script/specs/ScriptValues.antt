-- What the code makes of a script, as the definitions have it.
use Rattle.std.specs.Prelude.{◌≡◌, List, ◌++◌, Option, Some, None, Result, MatchResult}
use Rattle.protocol.specs.World.{Event as ProtocolEvent}
use Rattle.server_core.specs.Runs.{event_value}
use Rattle.server_core.specs.declared.events.Event.{Event}
use Rattle.event_script.specs.Script.{ScriptCut as CutValue, Addressed as ScriptAddressed, Six as ScriptSix}
use Rattle.event_script.specs.Script.{Start as ScriptStart}
use Rattle.event_script.specs.declared.cuts.ScriptCut.{ScriptCut}
use Rattle.event_script.specs.declared.cuts.Addressed.{Addressed}
use Rattle.event_script.specs.declared.cuts.Six.{Six}
use Rattle.event_script.specs.declared.arrive.Start.{Start}
use Rattle.event_script.specs.declared.fault.ScriptFault.{ScriptFault}
use Rattle.event_script.specs.declared.fault.ScriptFault.TheVariants.{Script}

-- a cut text
abbrev pub cut_value : ScriptCut → CutValue
cut_value cut = record { front = cut.front.now; rest = cut.rest.now }

-- a text that begins with a client's number
abbrev pub addressed_value : Addressed → ScriptAddressed
addressed_value x = record { client = x.client; rest = x.rest.now }

-- six parts of a text
abbrev pub six_value : Six → ScriptSix
six_value x = record {
  first = x.first.now;
  second = x.second.now;
  third = x.third.now;
  fourth = x.fourth.now;
  fifth = x.fifth.now;
  sixth = x.sixth.now;
}

-- a start whose numbers fit
abbrev pub start_value : Start → ScriptStart
start_value x = record {
  year = x.year;
  day = x.day;
  hour = x.hour;
  minute = x.minute;
  second = x.second;
  fraction = x.fraction;
}

-- a line is read as the event that it is, and refused as Script only where it is none
abbrev pub IsRead : Option ProtocolEvent → Result Event ScriptFault → Type 0
IsRead told r = MatchResult r (λ e. told ≡ Some (event_value e)) (λ fault. fault ≡ Script → told ≡ None)

-- events before others, where these are there
abbrev pub with_events : List ProtocolEvent → Option (List ProtocolEvent) → Option (List ProtocolEvent)
with_events es (Some more) = Some (es ++ more)
with_events es None = None
