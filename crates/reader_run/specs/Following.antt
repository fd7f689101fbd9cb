-- What is read of several servers, one after the other.
-- SeedLink 3: the dialogue of a reader. Each server is asked for what comes after the packets that were counted.
use Rattle.std.specs.Prelude.{ℕ, List, Option}
use Rattle.slreader.specs.Dialogue.{ReaderValue}
use Rattle.slreader.specs.GoingOn.{begun_at, plan_on}
use Rattle.slreader.specs.Tallies.{TallyValue}
use Rattle.slreader.specs.Wants.{WantValue}
use Rattle.reader_run.specs.Whole.{CountsWritten}

-- the reader that asks the next server
abbrev pub reader_on : List WantValue → TallyValue → ReaderValue
reader_on wants t = begun_at (plan_on t wants) t

-- Some connections were made, one after the other. At each one the wants went on after all that had been counted, and
-- all of it had been written.
pub data Follows (wants : List WantValue) (t : TallyValue) (records : Option (List ℕ)) : TallyValue → Option (List ℕ)
    → Type 0 where
  Nowhere : Follows wants t records t records
  Further : {t1 t2 : TallyValue} {records1 records2 : Option (List ℕ)} → Follows wants t records t1 records1
      → CountsWritten (reader_on wants t1) t2 records1 records2 → Follows wants t records t2 records2
