-- What is taken of one piece that was read.
-- SeedLink 3: the dialogue of a reader.
use Rattle.std.specs.Prelude.{◌≡◌, ◌≢◌, ℕ, Bool, true, false, List, [], ◌++◌, Option, ◌⊎◌}
use Rattle.std.specs.Io.KnownBytes.{Appends}
use Rattle.sl_io.specs.Known.{AppendsBeginning}
use Rattle.slreader.specs.declared.fault.ReaderFault.{ReaderFault}
use Rattle.slreader.specs.Dialogue.{ReaderValue, given_from, read_on}
use Rattle.slreader.specs.Dialogue.Stage.{Over, Failed}
use Rattle.sl_io.specs.Counts.{StopsWriting}
use Rattle.slreader.specs.declared.fault.ReaderFault.TheVariants.{OutOfMemory, Limit}
use Rattle.reader_run.specs.Lines.{OutputValue, beside, with_all}

-- The dialogue went on over the first bytes of a piece, and what they gave is told.
pub record GoesOver (r r' : ReaderValue) (o o' : OutputValue) (bytes : List ℕ) : Type 0 where
  pub reader : r' ≡ read_on r bytes
  pub output : o' ≡ with_all o (given_from r bytes)

-- It went on over all of the piece, or up to the end of the transfer.
pub record Takes (r r' : ReaderValue) (o o' : OutputValue) (piece : List ℕ) (is_over : Bool) : Type 0 where
  pub bytes : List ℕ
  pub behind : List ℕ
  pub parts : bytes ++ behind ≡ piece
  pub goes : GoesOver r r' o o' bytes
  pub all : is_over ≡ false → behind ≡ []
  pub over : is_over ≡ true → (read_on r bytes).stage ≡ Over

-- It went on over all of the piece, and failed.
pub record FailsIn (r r' : ReaderValue) (o o' : OutputValue) (piece : List ℕ) (fault : ReaderFault) : Type 0 where
  pub goes : GoesOver r r' o o' piece
  pub stage : (read_on r piece).stage ≡ Failed fault

-- Of a piece some first bytes are told, and nothing of what comes after them.
pub record TellsFirst (r : ReaderValue) (o o' : OutputValue) (piece : List ℕ) : Type 0 where
  pub bytes : List ℕ
  pub behind : List ℕ
  pub parts : bytes ++ behind ≡ piece
  pub output : o' ≡ with_all o (given_from r bytes)

-- A writing that stopped: a beginning of the records and no line, or all records and a beginning of the lines.
abbrev pub WritesRecordsFirst : OutputValue → (lines lines' records records' : Option (List ℕ)) → Type 0
WritesRecordsFirst o lines lines' records records' =
    (Appends lines lines' [] × AppendsBeginning records records' o.records)
    ⊎ (AppendsBeginning lines lines' o.lines × Appends records records' o.records)

-- ---- a piece, and what waits of its records

-- It went on over all of the piece, or up to the end of the transfer, and the records of what is told wait.
pub record TakesPiece (r r' : ReaderValue) (o o' : OutputValue) (piece : List ℕ) (is_over : Bool)
    (waits : List ℕ → Type 0) : Type 0 where
  pub records : List ℕ
  pub takes : Takes r r' o (beside o' records) piece is_over
  pub first : TellsFirst r o (beside o' records) piece
  pub waiting : waits records

-- It failed, and the records of what is told wait.
pub record FailsPiece (r r' : ReaderValue) (o o' : OutputValue) (piece : List ℕ) (fault : ReaderFault)
    (waits : List ℕ → Type 0) : Type 0 where
  pub records : List ℕ
  pub fails : fault ≢ OutOfMemory → FailsIn r r' o (beside o' records) piece fault
  pub late : fault ≢ Limit
  pub first : TellsFirst r o (beside o' records) piece
  pub waiting : waits records

-- Not all records could be written: a beginning of those of some first bytes was.
pub record StopsPiece (r : ReaderValue) (o : OutputValue) (piece : List ℕ) (records records' : Option (List ℕ))
    (failures failures' empty empty' : ℕ) : Type 0 where
  pub told : OutputValue
  pub first : TellsFirst r o told piece
  pub begun : AppendsBeginning records records' told.records
  pub stopped : StopsWriting failures failures' empty empty'
