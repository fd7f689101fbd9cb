-- Why a listing of packets stops, by what its reader and its writers count.
use Rattle.std.specs.Prelude.{◌≡◌, ℕ, ◌⊎◌, ◌-◌, ◌^◌, List, Option}
use Rattle.std.specs.Io.KnownBytes.{IsAtEnd}
use Rattle.sl_io.specs.Counts.{IsMore, StopsWriting}
use Rattle.reader_run.specs.declared.fault.ListingFault.{ListingFault}
use Rattle.reader_run.specs.declared.fault.ListingFault.TheVariants.{Reader, Read, Write, State}

-- No write failed and none was empty, by the counts before and after.
abbrev pub IsQuiet : (failures failures' empty empty' : ℕ) → Type 0
IsQuiet failures failures' empty empty' = (failures' ≡ failures) × (empty' ≡ empty)

-- A read failed, or it gave nothing, since the input is at its end.
abbrev pub EndsReading : (failures failures' : ℕ) → (left' : Option (List ℕ)) → Type 0
EndsReading failures failures' left' = IsMore failures failures' 1 ⊎ ((failures' ≡ failures) × IsAtEnd left')

-- The same, or so many reads were made that they can't be counted.
abbrev pub EndsReads : (failures failures' calls calls' : ℕ) → (left' : Option (List ℕ)) → Type 0
EndsReads failures failures' calls calls' left' =
    EndsReading failures failures' left' ⊎ ((failures' ≡ failures) × IsMore calls calls' (2 ^ 64 - 1))

-- Why a listing stops, by whether the reading ended or no read failed, and whether no write failed or one did: the
-- reader's fault, and nothing failed; or the reading ended; or a write failed or was empty; or something was not kept,
-- of which that says nothing.
abbrev pub StopsListing : ListingFault → (ended no_read_failed : Type 0) → (quiet stopped : Type 0) → Type 0
StopsListing (Reader fault) ended no_read_failed quiet stopped = no_read_failed × quiet
StopsListing Read ended no_read_failed quiet stopped = ended × quiet
StopsListing Write ended no_read_failed quiet stopped = no_read_failed × stopped
StopsListing State ended no_read_failed quiet stopped = Unit {0}

-- ---- over three writers: that of commands, that of lines and that of records

-- how many writes of a writer failed, and how many took nothing
pub record Writes : Type 0 where
  pub failures : ℕ
  pub empty : ℕ

abbrev pub writes : (failures empty : ℕ) → Writes
writes failures empty = record { failures = failures; empty = empty }

-- none more, before and after
abbrev pub AreQuiet : (before after : Writes) → Type 0
AreQuiet before after = IsQuiet before.failures after.failures before.empty after.empty

-- one of them stopped the writing
abbrev pub Stop : (before after : Writes) → Type 0
Stop before after = StopsWriting before.failures after.failures before.empty after.empty

-- no write of lines or of records failed
abbrev pub AreBothQuiet : (lines lines' records records' : Writes) → Type 0
AreBothQuiet lines lines' records records' = AreQuiet lines lines' × AreQuiet records records'

-- one of the two stopped the writing, and the other one did not
abbrev pub OneStops : (lines lines' records records' : Writes) → Type 0
OneStops lines lines' records records' =
    (Stop lines lines' × AreQuiet records records') ⊎ (AreQuiet lines lines' × Stop records records')

-- Why a listing stops, by whether the reading ended or no read failed, and by what each writer counts: all but one of
-- them are quiet, and all of them where the fault is not one of writing.
abbrev pub StopsOver : ListingFault → (ended no_read_failed : Type 0)
    → (sent sent' lines lines' records records' : Writes) → Type 0
StopsOver fault ended no_read_failed sent sent' lines lines' records records' =
    StopsListing fault ended no_read_failed
    (AreQuiet sent sent' × AreBothQuiet lines lines' records records')
    ((Stop sent sent' × AreBothQuiet lines lines' records records')
    ⊎ (AreQuiet sent sent' × OneStops lines lines' records records'))
