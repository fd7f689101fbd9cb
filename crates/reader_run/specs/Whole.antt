-- What a listing of packets has read, sent and told as a whole, by the bytes that came.
-- SeedLink 3: the dialogue of a reader; the lines are this project's own.
use Rattle.std.specs.Prelude.{◌≡◌, ℕ, Bool, true, false, List, [], ◌∷◌, ◌++◌, drop, Option, ⊤}
use Rattle.std.specs.Io.KnownBytes.{Appends, Consumes}
use Rattle.sl_io.specs.Known.{AppendsBeginning}
use Rattle.slreader.specs.declared.fault.ReaderFault.TheVariants.{Limit, OutOfMemory, NotAPacket, AllRefused, BadReply}
use Rattle.slreader.specs.Tallies.{TallyValue}
use Rattle.slreader.specs.Wants.{PlanValue, is_plan}
use Rattle.slreader.specs.Dialogue.{Given, ReaderValue, Stage, given_from, read_on}
use Rattle.slreader.specs.Dialogue.Given.{Hello, Refused, Packet, End}
use Rattle.slreader.specs.Dialogue.Stage.{Over, Failed}
use Rattle.reader_run.specs.declared.fault.ListingFault.{ListingFault}
use Rattle.reader_run.specs.declared.fault.ListingFault.TheVariants.{Reader, Read, Write, State}
use Rattle.reader_run.specs.Lines.{LineStyle, line_of, record_of, refusal_at}

-- ---- what is told

-- the line of one thing that is given, by the lines of wants if they are refused, and how packets are
abbrev pub line_given : LineStyle → Given → List ℕ
line_given style Hello = []
line_given style (Refused want) = refusal_at style.refusals want
line_given style (Packet packet) = line_of style.packets packet
line_given style End = []

abbrev pub lines_given : LineStyle → List Given → List ℕ
lines_given style [] = []
lines_given style (g ∷ gs) = line_given style g ++ lines_given style gs

-- the record of one thing that is given, if it is a packet
abbrev pub record_given : Given → List ℕ
record_given Hello = []
record_given (Refused want) = []
record_given (Packet packet) = record_of packet
record_given End = []

abbrev pub records_given : List Given → List ℕ
records_given [] = []
records_given (g ∷ gs) = record_given g ++ records_given gs

-- ---- at the end

-- Bytes `came` that bring the dialogue of the reader to its end. All that it asks by them was sent, and of all that
-- they give the lines and the records were written. What was read `behind` the end is dropped.
pub record Ends (r : ReaderValue) (style : LineStyle)
    (left left' sent sent' lines lines' records records' : Option (List ℕ)) : Type 0 where
  pub came : List ℕ
  pub behind : List ℕ
  pub read : Consumes left left' (came ++ behind)
  pub over : (read_on r came).stage ≡ Over
  pub asked : Appends sent sent' (drop r.sent (read_on r came).asked)
  pub told : Appends lines lines' (lines_given style (given_from r came))
  pub kept : Appends records records' (records_given (given_from r came))

-- The same, and the tally counts what came.
pub record EndsCounted (r : ReaderValue) (tally : TallyValue) (style : LineStyle)
    (left left' sent sent' lines lines' records records' : Option (List ℕ)) : Type 0 where
  pub ends : Ends r style left left' sent sent' lines lines' records records'
  pub counted : tally ≡ (read_on r ends.came).tally

-- ---- at a fault

-- the reader's fault is the one of the dialogue
abbrev pub IsWhy : ListingFault → Stage → Type 0
IsWhy (Reader fault) stage = stage ≡ Failed fault
IsWhy Read stage = ⊤
IsWhy Write stage = ⊤
IsWhy State stage = ⊤

-- All of what was given is told at this fault: it is not one of the plan, of memory, of a write or of what is kept.
abbrev pub is_told_before : ListingFault → Bool
is_told_before (Reader Limit) = false
is_told_before (Reader OutOfMemory) = false
is_told_before (Reader NotAPacket) = true
is_told_before (Reader AllRefused) = true
is_told_before (Reader BadReply) = true
is_told_before Read = true
is_told_before Write = false
is_told_before State = false

-- Bytes `came`. A beginning of what the reader asks by them was sent, and of all that they give the lines and the
-- records were written.
pub record StopsAt (fault : ListingFault) (r : ReaderValue) (style : LineStyle)
    (left left' sent sent' lines lines' records records' : Option (List ℕ)) : Type 0 where
  pub came : List ℕ
  pub read : Consumes left left' came
  pub why : IsWhy fault (read_on r came).stage
  pub asked : AppendsBeginning sent sent' (drop r.sent (read_on r came).asked)
  pub told : Appends lines lines' (lines_given style (given_from r came))
  pub kept : Appends records records' (records_given (given_from r came))

-- The same, and the tally counts what came.
pub record StopsCounted (fault : ListingFault) (r : ReaderValue) (tally : TallyValue) (style : LineStyle)
    (left left' sent sent' lines lines' records records' : Option (List ℕ)) : Type 0 where
  pub stops : StopsAt fault r style left left' sent sent' lines lines' records records'
  pub counted : tally ≡ (read_on r stops.came).tally

-- ---- at whatever point it stops

-- Bytes `came`, and of what they give first what is `listed` and then what comes `later`. The records of all that is
-- listed were written, and of those that come later a beginning at most. Of the lines of what is listed a beginning
-- was written, and none of what comes later. So each packet of which a line was written, in part or as a whole, has its
-- record written before it.
pub record RecordsFirst (r : ReaderValue) (style : LineStyle)
    (left left' lines lines' records records' : Option (List ℕ)) : Type 0 where
  pub came : List ℕ
  pub behind : List ℕ
  pub read : Consumes left left' (came ++ behind)
  pub listed : List Given
  pub later : List Given
  pub given : listed ++ later ≡ given_from r came
  pub told : AppendsBeginning lines lines' (lines_given style listed)
  pub more : List ℕ
  pub rest : List ℕ
  pub begun : more ++ rest ≡ records_given later
  pub kept : Appends records records' (records_given listed ++ more)

-- ---- how far the reader is

-- A beginning of what came leads to that tally, and the records of all that it gives were written.
pub record CountsWritten (r : ReaderValue) (tally : TallyValue) (records records' : Option (List ℕ)) : Type 0 where
  pub came : List ℕ
  pub counted : tally ≡ (read_on r came).tally
  pub kept : Appends records records' (records_given (given_from r came))

-- A plan is not begun: there is no memory for it, or it can't be asked for.
abbrev pub IsNotBegunBy : ListingFault → PlanValue → Type 0
IsNotBegunBy (Reader Limit) plan = is_plan plan ≡ false
IsNotBegunBy (Reader OutOfMemory) plan = ⊤
IsNotBegunBy (Reader NotAPacket) plan = ⊥
IsNotBegunBy (Reader AllRefused) plan = ⊥
IsNotBegunBy (Reader BadReply) plan = ⊥
IsNotBegunBy Read plan = ⊥
IsNotBegunBy Write plan = ⊥
IsNotBegunBy State plan = ⊥
