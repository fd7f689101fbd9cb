-- What becomes of a record that a writer of records is handed.
use Rattle.std.specs.Prelude.{◌≡◌, ℕ, List, ◌++◌, Option}
use Rattle.sl_io.specs.Counts.{StopsWriting}
use Rattle.sl_io.specs.Known.{AppendsBeginning}
use Rattle.slreader.specs.Dialogue.{Given}
use Rattle.reader_run.specs.Lines.{with_records}
use Rattle.reader_run.specs.Stops.{IsQuiet}
use Rattle.reader_run.specs.declared.record_sink.SinkFault.{SinkFault}
use Rattle.reader_run.specs.declared.record_sink.SinkFault.TheVariants.{OutOfMemory, Write}

-- There was no memory for it: nothing was written, and what waited waits.
pub record TakesNone (waits waits' : List ℕ → Type 0) (written written' : Option (List ℕ))
    (failures failures' empty empty' : ℕ) : Type 0 where
  pub waiting : (records : List ℕ) → waits records → waits' records
  pub same : written' ≡ written
  pub quiet : IsQuiet failures failures' empty empty'

-- Of what waited, and of it, a beginning was written.
pub record TakesPart (waits : List ℕ → Type 0) (taken : List ℕ) (written written' : Option (List ℕ))
    (failures failures' empty empty' : ℕ) : Type 0 where
  pub begun : (records : List ℕ) → waits records → AppendsBeginning written written' (records ++ taken)
  pub stopped : StopsWriting failures failures' empty empty'

-- Why it was not taken.
abbrev pub StopsTake : SinkFault → (waits waits' : List ℕ → Type 0) → (taken : List ℕ)
    → (written written' : Option (List ℕ)) → (failures failures' empty empty' : ℕ) → Type 0
StopsTake OutOfMemory waits waits' taken written written' failures failures' empty empty' =
    TakesNone waits waits' written written' failures failures' empty empty'
StopsTake Write waits waits' taken written written' failures failures' empty empty' =
    TakesPart waits taken written written' failures failures' empty empty'

-- Of what waited, and of what was given then, a beginning was written.
pub record GivesPart (waits : List ℕ → Type 0) (given : Option Given) (written written' : Option (List ℕ))
    (failures failures' empty empty' : ℕ) : Type 0 where
  pub begun : (records : List ℕ) → waits records → AppendsBeginning written written' (with_records records given)
  pub stopped : StopsWriting failures failures' empty empty'

-- The same of what was given.
abbrev pub StopsGiven : SinkFault → (waits waits' : List ℕ → Type 0) → (given : Option Given)
    → (written written' : Option (List ℕ)) → (failures failures' empty empty' : ℕ) → Type 0
StopsGiven OutOfMemory waits waits' given written written' failures failures' empty empty' =
    TakesNone waits waits' written written' failures failures' empty empty'
StopsGiven Write waits waits' given written written' failures failures' empty empty' =
    GivesPart waits given written written' failures failures' empty empty'
