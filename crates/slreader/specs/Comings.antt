-- What a reader gives of a piece, and what is left of it.
-- SeedLink 3: the dialogue of a reader.
use Rattle.std.specs.Prelude.{◌≡◌, true, false, Result, Ok, Err}
use Rattle.slreader.specs.declared.fault.ReaderFault.{ReaderFault}
use Rattle.slreader.specs.declared.fault.ReaderFault.TheVariants as fault
use Rattle.slreader.specs.declared.came.Came.{Came}
use Rattle.slreader.specs.Wants.{PlanValue, is_plan}
use Rattle.slreader.specs.Whats.{what_value}
use Rattle.slreader.specs.Dialogue.{Outcome}
use Rattle.slreader.specs.Dialogue.Outcome.{Gave, Stopped}

-- what a call answered
abbrev pub came_outcome : Result Came ReaderFault → Outcome
came_outcome (Ok came) = Gave came.used (what_value came.what)
came_outcome (Err fault) = Stopped fault

-- Why a plan is not begun: it can't be asked for, or there is no memory for one that can.
abbrev pub IsNotBegun : ReaderFault → PlanValue → Type 0
IsNotBegun fault.Limit plan = is_plan plan ≡ false
IsNotBegun fault.OutOfMemory plan = is_plan plan ≡ true
IsNotBegun fault.NotAPacket plan = ⊥
IsNotBegun fault.AllRefused plan = ⊥
IsNotBegun fault.BadReply plan = ⊥
