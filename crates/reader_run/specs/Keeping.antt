-- What a reader leaves for one that is begun later: which records are made to last, and how far it is.
use Rattle.std.specs.Prelude.{◌≡◌, ℕ, List, [], ◌∷◌, ◌++◌, Option, Some, None, Result, Ok, Err}
use Rattle.sl_io.specs.Counts.{IsMore}
use Rattle.slreader.specs.Tallies.{TallyValue}
use Rattle.slreader.specs.Dialogue.{ReaderValue}
use Rattle.reader_run.specs.declared.fault.ListingFault.{ListingFault}
use Rattle.reader_run.specs.declared.fault.ListingFault.TheVariants.{Reader, Read, Write, State}
use Rattle.reader_run.specs.Whole.{CountsWritten}

-- what was done
pub data Deed : Type 0 where
  -- All records that had been written by then were made to last.
  Flushed : (written : Option (List ℕ)) → Deed
  -- What was counted was kept.
  Kept : TallyValue → Deed

-- These deeds or calls came between the two, where they are told after it.
abbrev pub Tells : {A : Type 0} → Option (List A) → Option (List A) → List A → Type 0
Tells old None more = Unit {0}
Tells (Some before) (Some after) more = after ≡ before ++ more
Tells None (Some after) more = ⊥

-- What was counted so far may be kept: nothing was done, or the records were made to last, and then it was kept or not.
pub data IsStep (tally : TallyValue) (written : Option (List ℕ)) : List Deed → Type 0 where
  Stays : IsStep tally written []
  Flushes : IsStep tally written (Flushed written ∷ [])
  Keeps : IsStep tally written (Flushed written ∷ Kept tally ∷ [])

abbrev pub Steps : TallyValue → (written : Option (List ℕ)) → (done done' : Option (List Deed)) → Type 0
Steps tally written done done' = (more : List Deed) × Tells done done' more × IsStep tally written more

-- Each tally that was kept fits the records that had been made to last right before that.
pub data AreBehind (Fits : TallyValue → Option (List ℕ) → Type 0) : List Deed → Type 0 where
  Nothing : AreBehind Fits []
  Last : {ds : List Deed} → AreBehind Fits ds → (written : Option (List ℕ))
      → AreBehind Fits (ds ++ Flushed written ∷ [])
  Keep : {ds : List Deed} → AreBehind Fits ds → (written : Option (List ℕ)) (tally : TallyValue) → Fits tally written
      → AreBehind Fits (ds ++ Flushed written ∷ Kept tally ∷ [])

-- So were all that were done between the two.
abbrev pub KeepsBehind : (TallyValue → Option (List ℕ) → Type 0) → (done done' : Option (List Deed)) → Type 0
KeepsBehind Fits done done' = (more : List Deed) × Tells done done' more × AreBehind Fits more

-- Each tally that a reader kept counts exactly the packets whose records had been written and made to last before.
abbrev pub KeepsCounted : ReaderValue → (records : Option (List ℕ)) → (done done' : Option (List Deed)) → Type 0
KeepsCounted r records done done' = KeepsBehind (λ tally written. CountsWritten r tally records written) done done'

-- Last of all this was kept.
abbrev pub EndsKept : TallyValue → (written : Option (List ℕ)) → (done done' : Option (List Deed)) → Type 0
EndsKept tally written done done' =
    (before : List Deed) × Tells done done' (before ++ Flushed written ∷ Kept tally ∷ [])

-- A keeper failed, once, exactly where that is the outcome.
abbrev pub CountsKeeping : {T : Type 0} → Result T ListingFault → (failures failures' : ℕ) → Type 0
CountsKeeping (Ok x) failures failures' = failures' ≡ failures
CountsKeeping (Err (Reader fault)) failures failures' = failures' ≡ failures
CountsKeeping (Err Read) failures failures' = failures' ≡ failures
CountsKeeping (Err Write) failures failures' = failures' ≡ failures
CountsKeeping (Err State) failures failures' = IsMore failures failures' 1
