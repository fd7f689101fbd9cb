-- What a replay writes, and what it does to the counts of its reader and writer.
use Rattle.std.specs.Prelude.{◌≡◌, ℕ, List, Option, Some, None}
use Rattle.std.specs.Io.KnownBytes.{Appends}
use Rattle.sl_io.specs.Counts.{StopsReading, StopsWriting}
use Rattle.sl_io.specs.Known.{AppendsBeginning}
use Rattle.sl_io.specs.declared.faults.ReadFault.TheVariants as read
use Rattle.job_check.specs.declared.replay_fault.ReplayFault.{ReplayFault}
use Rattle.job_check.specs.declared.replay_fault.ReplayFault.TheVariants.{Stream, Script}
use Rattle.sl_io.specs.declared.faults.StreamFault.TheVariants.{OutOfMemory, Read, Write}

-- there is an output, and all of it is written
abbrev pub WritesAll : Option (List ℕ) → Option (List ℕ) → Option (List ℕ) → Type 0
WritesAll None old new = ⊥
WritesAll (Some output) old new = Appends old new output

-- there is an output, and a beginning of it is written
abbrev pub WritesBeginning : Option (List ℕ) → Option (List ℕ) → Option (List ℕ) → Type 0
WritesBeginning None old new = ⊥
WritesBeginning (Some output) old new = AppendsBeginning old new output

-- the reader's failures and calls, before and after, by the fault: one more failure, or 2^64 - 1 calls, at Read alone
abbrev pub LeavesReader : ReplayFault → ℕ → ℕ → ℕ → ℕ → Type 0
LeavesReader (Stream Read) failures failures' calls calls' = StopsReading read.Read failures failures' calls calls'
LeavesReader (Stream OutOfMemory) failures failures' calls calls' = failures' ≡ failures
LeavesReader (Stream Write) failures failures' calls calls' = failures' ≡ failures
LeavesReader (Script line) failures failures' calls calls' = failures' ≡ failures

-- the writer's failures and empty writes, before and after, by the fault: one more of either at Write alone
abbrev pub LeavesWriter : ReplayFault → ℕ → ℕ → ℕ → ℕ → Type 0
LeavesWriter (Stream Write) failures failures' empty_writes empty_writes' =
    StopsWriting failures failures' empty_writes empty_writes'
LeavesWriter (Stream OutOfMemory) failures failures' empty_writes empty_writes' =
    (failures' ≡ failures) × (empty_writes' ≡ empty_writes)
LeavesWriter (Stream Read) failures failures' empty_writes empty_writes' =
    (failures' ≡ failures) × (empty_writes' ≡ empty_writes)
LeavesWriter (Script line) failures failures' empty_writes empty_writes' =
    (failures' ≡ failures) × (empty_writes' ≡ empty_writes)

-- what holds of the line that a fault names, where it names one
abbrev pub IfScript : ReplayFault → (ℕ → Type 0) → Type 0
IfScript (Script line) holds = holds line
IfScript (Stream fault) holds = Unit {0}
