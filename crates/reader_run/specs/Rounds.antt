-- What a round of a reading does: what is asked is sent, a piece is read, and what it gives is written.
-- SeedLink 3: the dialogue of a reader.
use Rattle.std.specs.Prelude.{◌≡◌, ◌≢◌, ◌≤◌, ◌+◌, ℕ, Bool, true, false, List, [], Option, Result, Ok, Err, drop}
use Rattle.std.specs.Prelude.{length, take}
use Rattle.std.specs.Io.KnownBytes.{Appends, Consumes, Keeps}
use Rattle.slreader.specs.declared.fault.ReaderFault.{ReaderFault}
use Rattle.slreader.specs.declared.fault.ReaderFault.TheVariants.{Limit, OutOfMemory}
use Rattle.slreader.specs.Dialogue.{ReaderValue, given_from, read_on}
use Rattle.reader_run.specs.declared.fault.ListingFault.{ListingFault}
use Rattle.reader_run.specs.declared.fault.ListingFault.TheVariants.{Reader, Read, Write, State}
use Rattle.reader_run.specs.Lines.{OutputValue}
use Rattle.reader_run.specs.Pieces.{FailsIn, Takes, TellsFirst, WritesRecordsFirst}
use Rattle.reader_run.specs.Stops.{AreQuiet, EndsReading, Stop, Writes}
use Rattle.reader_run.specs.Whole.{EndsCounted, RecordsFirst, StopsCounted, is_told_before, lines_given}
use Rattle.reader_run.specs.Whole.{records_given}

-- ---- what is asked is sent, and a piece is read

-- All that was asked was sent.
pub record Sends (r r' : ReaderValue) (sent sent' : Option (List ℕ)) : Type 0 where
  pub written : Appends sent sent' (drop r.sent r.asked)
  pub reader : r' ≡ record r { sent = r.sent + length (drop r.sent r.asked) }

-- All that was asked was sent, and then the reading ended.
pub record EndsBehind (r r' : ReaderValue) (left left' sent sent' : Option (List ℕ)) (failures failures' : ℕ)
    (writes writes' : Writes) : Type 0 where
  pub sends : Sends r r' sent sent'
  pub kept : Keeps left left'
  pub ended : EndsReading failures failures' left'
  pub quiet : AreQuiet writes writes'

-- Not all that was asked could be sent, and nothing was read.
pub record EndsBefore (left left' : Option (List ℕ)) (failures failures' : ℕ) (writes writes' : Writes) : Type 0 where
  pub kept : Keeps left left'
  pub unread : failures' ≡ failures
  pub stopped : Stop writes writes'

-- Why there is no piece.
abbrev pub StopsExchange : ListingFault → (r r' : ReaderValue) → (left left' sent sent' : Option (List ℕ))
    → (failures failures' : ℕ) → (writes writes' : Writes) → Type 0
StopsExchange (Reader fault) r r' left left' sent sent' failures failures' writes writes' = ⊥
StopsExchange Read r r' left left' sent sent' failures failures' writes writes' =
    EndsBehind r r' left left' sent sent' failures failures' writes writes'
StopsExchange Write r r' left left' sent sent' failures failures' writes writes' =
    EndsBefore left left' failures failures' writes writes'
StopsExchange State r r' left left' sent sent' failures failures' writes writes' = ⊥

-- ---- what a piece gives is written

-- All that was `told` of a piece was written.
pub record WritesAllOf (told : OutputValue) (r : ReaderValue) (o o' : OutputValue) (piece : List ℕ)
    (lines lines' records records' : Option (List ℕ)) : Type 0 where
  pub first : TellsFirst r o told piece
  pub listed : Appends lines lines' told.lines
  pub kept : Appends records records' told.records
  pub cleared : o' ≡ record told { lines = []; records = [] }

-- The dialogue went on over a piece, or up to the end of the transfer.
pub record TakesBlock (r r' : ReaderValue) (o o' : OutputValue) (piece : List ℕ) (is_over : Bool)
    (lines lines' records records' : Option (List ℕ)) : Type 0 where
  pub told : OutputValue
  pub takes : Takes r r' o told piece is_over
  pub written : WritesAllOf told r o o' piece lines lines' records records'

-- It failed in a piece.
pub record FailsInBlock (fault : ReaderFault) (r r' : ReaderValue) (o o' : OutputValue) (piece : List ℕ)
    (lines lines' records records' : Option (List ℕ)) : Type 0 where
  pub told : OutputValue
  pub fails : fault ≢ OutOfMemory → FailsIn r r' o told piece fault
  pub late : fault ≢ Limit
  pub written : WritesAllOf told r o o' piece lines lines' records records'

-- Not all that was told of a piece could be written.
pub record StopsInBlock (r : ReaderValue) (o : OutputValue) (piece : List ℕ)
    (lines lines' records records' : Option (List ℕ)) : Type 0 where
  pub told : OutputValue
  pub first : TellsFirst r o told piece
  pub order : WritesRecordsFirst told lines lines' records records'

-- Why a piece is not taken, by whether no write failed or one did.
abbrev pub StopsTaking : ListingFault → (r r' : ReaderValue) → (o o' : OutputValue) → (piece : List ℕ)
    → (lines lines' records records' : Option (List ℕ)) → (quiet stopped : Type 0) → Type 0
StopsTaking (Reader fault) r r' o o' piece lines lines' records records' quiet stopped =
    FailsInBlock fault r r' o o' piece lines lines' records records' × quiet
StopsTaking Read r r' o o' piece lines lines' records records' quiet stopped = ⊥
StopsTaking Write r r' o o' piece lines lines' records records' quiet stopped =
    StopsInBlock r o piece lines lines' records records' × stopped
StopsTaking State r r' o o' piece lines lines' records records' quiet stopped = ⊥

-- ---- rounds, one after the other

-- Nothing was read beyond what came, the reader is where it leads, a beginning of what it asks was sent, and what it
-- gave is told.
pub record ListedTo (r r1 : ReaderValue) (o o1 : OutputValue)
    (left left1 sent sent1 lines lines1 records records1 : Option (List ℕ)) : Type 0 where
  pub came : List ℕ
  pub read : Consumes left left1 came
  pub reader : r1 ≡ record (read_on r came) { sent = r1.sent }
  pub from : r.sent ≤ r1.sent
  pub within : r1.sent ≤ length (read_on r came).asked
  pub asked : Appends sent sent1 (drop r.sent (take r1.sent (read_on r came).asked))
  pub told : Appends lines lines1 (lines_given o.style (given_from r came))
  pub kept : Appends records records1 (records_given (given_from r came))
  pub output : o1 ≡ record { style = o.style; lines = []; records = [] }

-- A moment of a reading: the reader and what it has to write, what is left of the input, and what was sent and written.
pub record Moment : Type 0 where
  pub reader : ReaderValue
  pub output : OutputValue
  pub left : Option (List ℕ)
  pub sent : Option (List ℕ)
  pub lines : Option (List ℕ)
  pub records : Option (List ℕ)

abbrev pub moment : ReaderValue → OutputValue → (left sent lines records : Option (List ℕ)) → Moment
moment r o left sent lines records =
    record { reader = r; output = o; left = left; sent = sent; lines = lines; records = records }

-- all that came between two moments is listed
abbrev pub IsListed : Moment → Moment → Type 0
IsListed m n =
    ListedTo m.reader n.reader m.output n.output m.left n.left m.sent n.sent m.lines n.lines m.records n.records

-- From one moment to the next all that came is listed, whatever came before.
abbrev pub GoesOn : Moment → Moment → Type 0
GoesOn n n' = (m : Moment) → IsListed m n → IsListed m n'

-- The transfer has ended, and it is told and counted as a whole.
abbrev pub Finishes : Moment → Moment → Type 0
Finishes n n' = (m : Moment) → IsListed m n → EndsCounted m.reader n'.reader.tally m.output.style m.left n'.left
    m.sent n'.sent m.lines n'.lines m.records n'.records

-- It stopped, and all that came is told and counted.
abbrev pub BreaksOff : ListingFault → Moment → Moment → Type 0
BreaksOff fault n n' = (m : Moment) → IsListed m n → StopsCounted fault m.reader n'.reader.tally m.output.style
    m.left n'.left m.sent n'.sent m.lines n'.lines m.records n'.records

-- Records were written before their lines.
abbrev pub StaysInOrder : Moment → Moment → Type 0
StaysInOrder n n' = (m : Moment) → IsListed m n → RecordsFirst m.reader m.output.style m.left n'.left
    m.lines n'.lines m.records n'.records

-- What a round that answers whether the transfer is over leaves.
abbrev pub Rounds : Result Bool ListingFault → Moment → Moment → Type 0
Rounds (Ok true) n n' = Finishes n n'
Rounds (Ok false) n n' = GoesOn n n'
Rounds (Err fault) n n' = is_told_before fault ≡ true → BreaksOff fault n n'
