-- The dialogue of a reader: what it is sent, byte by byte, what it asks meanwhile, and what it is given.
-- SeedLink 3: the two lines that answer HELLO, OK and ERROR, and data packets with the end of a transfer. Left out:
-- the answer to any other command.
use Rattle.std.specs.Prelude.{ℕ, ◌+◌, ◌-◌, Bool, true, false, ◌==◌, if◌then◌else◌, List, [], ◌∷◌, ◌++◌, length, Option}
use Rattle.std.specs.Prelude.{Some, None, codes}
use Rattle.protocol.specs.Streams.{Piece, piece_of}
use Rattle.protocol.specs.Streams.Piece.{WholePacket, TheEnd, Beginning, NoPiece}
use Rattle.slreader.specs.declared.fault.ReaderFault.{ReaderFault}
use Rattle.slreader.specs.declared.fault.ReaderFault.TheVariants.{NotAPacket, AllRefused, BadReply}
use Rattle.slreader.specs.declared.pieces.LinePiece.{LinePiece}
use Rattle.slreader.specs.declared.pieces.LinePiece.TheVariants as line
use Rattle.slreader.specs.declared.pieces.ReplyPiece.{ReplyPiece}
use Rattle.slreader.specs.declared.pieces.ReplyPiece.TheVariants as reply
use Rattle.slreader.specs.Pieces.{greeting, line_piece, reply_piece}
use Rattle.slreader.specs.Wants.{Command, PlanValue, wants_of, commands_of}
use Rattle.slreader.specs.Lines.{ended, without}
use Rattle.slreader.specs.Tallies.{TallyValue, tally_of, counted}

-- ---- the reader

-- what a reader is sent next
pub data Stage : Type 0 where
  -- the first line that answers HELLO, of which so many bytes came, the last of them CR or not
  FirstLine : (count : ℕ) (after_cr : Bool) → Stage
  -- the second
  SecondLine : (count : ℕ) (after_cr : Bool) → Stage
  -- the answer to a command of a want, of which so many bytes came, those of ERROR or not
  Answer : (want count : ℕ) (is_error : Bool) → Stage
  -- packets, or the end; these bytes came since the last packet
  Transfer : (rest : List ℕ) → Stage
  -- nothing more
  Over : Stage
  -- nothing that it could read
  Failed : ReaderFault → Stage

-- How far a reader is.
pub record ReaderValue : Type 0 where
  pub stage : Stage
  -- the commands that it has not asked yet
  pub ahead : List Command
  -- how many wants are not refused
  pub kept : ℕ
  -- all that it asks so far, and how many of these bytes were sent
  pub asked : List ℕ
  pub sent : ℕ
  -- what it counted of the packets that it was given
  pub tally : TallyValue

-- what a reader is given
pub data Given : Type 0 where
  -- The server answered HELLO.
  Hello : Given
  -- A command of the want was answered ERROR.
  Refused : (want : ℕ) → Given
  Packet : List ℕ → Given
  End : Given

-- ---- what it asks

-- what comes after a command was asked: its answer, or the transfer
abbrev pub stage_after : Option ℕ → Stage
stage_after (Some want) = Answer want 0 false
stage_after None = Transfer []

-- The next command is asked.
abbrev pub asking : ReaderValue → List Command → ReaderValue
asking r [] = record r { stage = Transfer [] }
asking r (c ∷ ahead) = record r { stage = stage_after c.want; ahead = ahead; asked = r.asked ++ ended c.line }

abbrev pub ask_next : ReaderValue → ReaderValue
ask_next r = asking r r.ahead

-- the reader at another stage
abbrev pub at_stage : ReaderValue → Stage → ReaderValue
at_stage r stage = record r { stage = stage }

abbrev pub fails : ReaderValue → ReaderFault → ReaderValue
fails r fault = record r { stage = Failed fault }

-- The want is refused: its other commands are not asked. After the last want nothing more is read.
abbrev pub refuse : ReaderValue → ℕ → ReaderValue
refuse r want =
    if r.kept - 1 == 0 then record r { stage = Failed AllRefused; ahead = without want r.ahead; kept = r.kept - 1 }
    else ask_next (record r { ahead = without want r.ahead; kept = r.kept - 1 })

-- ---- one byte

abbrev pub first_line : ReaderValue → ℕ → ℕ → LinePiece → ReaderValue
first_line r count b line.Whole = record r { stage = SecondLine 0 false }
first_line r count b line.Open = record r { stage = FirstLine (count + 1) (b == 13) }
first_line r count b line.Other = fails r BadReply

abbrev pub second_line : ReaderValue → ℕ → ℕ → LinePiece → ReaderValue
second_line r count b line.Whole = ask_next r
second_line r count b line.Open = record r { stage = SecondLine (count + 1) (b == 13) }
second_line r count b line.Other = fails r BadReply

abbrev pub answered : ReaderValue → (want count : ℕ) → ReplyPiece → ReaderValue
answered r want count (reply.Whole true) = refuse r want
answered r want count (reply.Whole false) = ask_next r
answered r want count (reply.Open is_error) = record r { stage = Answer want (count + 1) is_error }
answered r want count reply.Other = fails r BadReply

abbrev pub transferred : ReaderValue → List ℕ → Piece → ReaderValue
transferred r bytes WholePacket = record r { stage = Transfer []; tally = counted r.tally bytes }
transferred r bytes TheEnd = record r { stage = Over }
transferred r bytes Beginning = record r { stage = Transfer bytes }
transferred r bytes NoPiece = fails r NotAPacket

-- the reader after one more byte at that stage
abbrev pub byte_at : ReaderValue → Stage → ℕ → ReaderValue
byte_at r (FirstLine count after_cr) b = first_line r count b (line_piece greeting count after_cr b)
byte_at r (SecondLine count after_cr) b = second_line r count b (line_piece [] count after_cr b)
byte_at r (Answer want count is_error) b = answered r want count (reply_piece count is_error b)
byte_at r (Transfer rest) b = transferred r (rest ++ b ∷ []) (piece_of (rest ++ b ∷ []))
byte_at r Over b = fails r NotAPacket
byte_at r (Failed fault) b = r

unfoldable pub after_byte : ReaderValue → ℕ → ReaderValue
after_byte r b = byte_at r r.stage b

abbrev pub hello_given : LinePiece → List Given
hello_given line.Whole = Hello ∷ []
hello_given line.Open = []
hello_given line.Other = []

abbrev pub refusal_given : ℕ → ReplyPiece → List Given
refusal_given want (reply.Whole true) = Refused want ∷ []
refusal_given want (reply.Whole false) = []
refusal_given want (reply.Open is_error) = []
refusal_given want reply.Other = []

abbrev pub packet_given : List ℕ → Piece → List Given
packet_given bytes WholePacket = Packet bytes ∷ []
packet_given bytes TheEnd = End ∷ []
packet_given bytes Beginning = []
packet_given bytes NoPiece = []

abbrev pub given_at : Stage → ℕ → List Given
given_at (FirstLine count after_cr) b = []
given_at (SecondLine count after_cr) b = hello_given (line_piece [] count after_cr b)
given_at (Answer want count is_error) b = refusal_given want (reply_piece count is_error b)
given_at (Transfer rest) b = packet_given (rest ++ b ∷ []) (piece_of (rest ++ b ∷ []))
given_at Over b = []
given_at (Failed fault) b = []

-- what the byte gives: one thing or nothing
unfoldable pub given_by : ReaderValue → ℕ → List Given
given_by r b = given_at r.stage b

-- ---- all bytes

-- a reader that was sent nothing: HELLO is asked
abbrev pub begun : PlanValue → ReaderValue
begun p =
    record {
      stage = FirstLine 0 false;
      ahead = commands_of p;
      kept = length (wants_of p);
      asked = ended (codes "HELLO");
      sent = 0;
      tally = tally_of p;
    }

-- the reader after more bytes
abbrev pub read_on : ReaderValue → List ℕ → ReaderValue
read_on r [] = r
read_on r (b ∷ bytes) = read_on (after_byte r b) bytes

-- what they give, in order
abbrev pub given_from : ReaderValue → List ℕ → List Given
given_from r [] = []
given_from r (b ∷ bytes) = given_by r b ++ given_from (after_byte r b) bytes

-- ---- up to the first thing that is given

-- how many bytes were read, what they gave, and the reader after them
pub record FirstGiven : Type 0 where
  pub used : ℕ
  pub given : Option Given
  pub reader : ReaderValue

-- behind so many bytes that gave nothing
abbrev pub behind : ℕ → FirstGiven → FirstGiven
behind count f = record f { used = count + f.used }

-- one byte was read, and gave that; nothing was given before
abbrev pub goes_on : List Given → ReaderValue → FirstGiven → FirstGiven
goes_on [] r f = behind 1 f
goes_on (g ∷ gs) r f = record { used = 1; given = Some g; reader = r }

-- Bytes are read up to the first that gives something, else all of them.
abbrev pub read_first : ReaderValue → List ℕ → FirstGiven
read_first r [] = record { used = 0; given = None; reader = r }
read_first r (b ∷ bytes) = goes_on (given_by r b) (after_byte r b) (read_first (after_byte r b) bytes)

-- what a call answers: what was given and how many bytes were read, or why nothing more is read
pub data Outcome : Type 0 where
  Gave : (used : ℕ) → (given : Option Given) → Outcome
  Stopped : ReaderFault → Outcome

abbrev pub outcome_at : ℕ → Stage → Outcome
outcome_at used (FirstLine count after_cr) = Gave used None
outcome_at used (SecondLine count after_cr) = Gave used None
outcome_at used (Answer want count is_error) = Gave used None
outcome_at used (Transfer rest) = Gave used None
outcome_at used Over = Gave used None
outcome_at used (Failed fault) = Stopped fault

abbrev pub outcome_in : ℕ → Option Given → Stage → Outcome
outcome_in used (Some g) stage = Gave used (Some g)
outcome_in used None stage = outcome_at used stage

-- A reader that failed before it was given something says why.
abbrev pub outcome_of : FirstGiven → Outcome
outcome_of f = outcome_in f.used f.given f.reader.stage

-- the reader with a plan after all that it was sent
abbrev pub reader_of : PlanValue → List ℕ → ReaderValue
reader_of p bytes = read_on (begun p) bytes

-- all that a reader with a plan asks, by what it was sent
abbrev pub asked_of : PlanValue → List ℕ → List ℕ
asked_of p bytes = (reader_of p bytes).asked
