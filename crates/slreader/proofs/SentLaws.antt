-- Laws over what a reader asks: it grows, and what of it was sent changes nothing of the dialogue.
use Rattle.std.proofs.Common.{◌≡◌, ℕ, List, [], ◌∷◌, ◌++◌, true, false, refl, sym, ap, ◌∙◌, append_assoc, append-nil}
use Rattle.std.specs.Prelude.{Bool, if◌then◌else◌, ◌==◌, ◌-◌}
use Rattle.protocol.specs.Streams.{Piece, piece_of}
use Rattle.protocol.specs.Streams.Piece.{WholePacket, TheEnd, Beginning, NoPiece}
use Rattle.slreader.specs.declared.fault.ReaderFault.TheVariants.{AllRefused}
use Rattle.slreader.specs.declared.pieces.LinePiece.{LinePiece}
use Rattle.slreader.specs.declared.pieces.LinePiece.TheVariants as line
use Rattle.slreader.specs.declared.pieces.ReplyPiece.{ReplyPiece}
use Rattle.slreader.specs.declared.pieces.ReplyPiece.TheVariants as reply
use Rattle.slreader.specs.Pieces.{greeting, line_piece, reply_piece}
use Rattle.slreader.specs.Wants.{Command}
use Rattle.slreader.specs.Lines.{ended, without}
use Rattle.slreader.specs.Dialogue.{ReaderValue, Stage, after_byte, byte_at, asking, ask_next, refuse}
use Rattle.slreader.specs.Dialogue.{first_line, second_line, answered, transferred, given_by, given_from, read_on}
use Rattle.slreader.specs.Dialogue.Stage.{FirstLine, SecondLine, Answer, Transfer, Over, Failed}

-- the reader of whom so many bytes were sent
abbrev pub with_sent : ReaderValue → ℕ → ReaderValue
with_sent r s = record r { sent = s }

-- ---- what was sent changes nothing else

asking_sent : (r : ReaderValue) (s : ℕ) (ahead : List Command)
    → asking (with_sent r s) ahead ≡ with_sent (asking r ahead) s
asking_sent r s [] = refl
asking_sent r s (c ∷ ahead) = refl

refusing_sent : (q r : ReaderValue) (s : ℕ) (b : Bool)
    → (if b then with_sent q s else ask_next (with_sent r s)) ≡ with_sent (if b then q else ask_next r) s
refusing_sent q r s true = refl
refusing_sent q r s false = asking_sent r s r.ahead

refuse_sent : (r : ReaderValue) (s want : ℕ) → refuse (with_sent r s) want ≡ with_sent (refuse r want) s
refuse_sent r s want = refusing_sent
    (record r { stage = Failed AllRefused; ahead = without want r.ahead; kept = r.kept - 1 })
    (record r { ahead = without want r.ahead; kept = r.kept - 1 }) s (r.kept - 1 == 0)

first_sent : (r : ReaderValue) (s count b : ℕ) (p : LinePiece)
    → first_line (with_sent r s) count b p ≡ with_sent (first_line r count b p) s
first_sent r s count b line.Whole = refl
first_sent r s count b line.Open = refl
first_sent r s count b line.Other = refl

second_sent : (r : ReaderValue) (s count b : ℕ) (p : LinePiece)
    → second_line (with_sent r s) count b p ≡ with_sent (second_line r count b p) s
second_sent r s count b line.Whole = asking_sent r s r.ahead
second_sent r s count b line.Open = refl
second_sent r s count b line.Other = refl

answered_sent : (r : ReaderValue) (s want count : ℕ) (p : ReplyPiece)
    → answered (with_sent r s) want count p ≡ with_sent (answered r want count p) s
answered_sent r s want count (reply.Whole true) = refuse_sent r s want
answered_sent r s want count (reply.Whole false) = asking_sent r s r.ahead
answered_sent r s want count (reply.Open is_error) = refl
answered_sent r s want count reply.Other = refl

transferred_sent : (r : ReaderValue) (s : ℕ) (bytes : List ℕ) (p : Piece)
    → transferred (with_sent r s) bytes p ≡ with_sent (transferred r bytes p) s
transferred_sent r s bytes WholePacket = refl
transferred_sent r s bytes TheEnd = refl
transferred_sent r s bytes Beginning = refl
transferred_sent r s bytes NoPiece = refl

byte_sent : (r : ReaderValue) (s : ℕ) (stage : Stage) (b : ℕ)
    → byte_at (with_sent r s) stage b ≡ with_sent (byte_at r stage b) s
byte_sent r s (FirstLine count after_cr) b = first_sent r s count b (line_piece greeting count after_cr b)
byte_sent r s (SecondLine count after_cr) b = second_sent r s count b (line_piece [] count after_cr b)
byte_sent r s (Answer want count is_error) b = answered_sent r s want count (reply_piece count is_error b)
byte_sent r s (Transfer rest) b = transferred_sent r s (rest ++ b ∷ []) (piece_of (rest ++ b ∷ []))
byte_sent r s Over b = refl
byte_sent r s (Failed fault) b = refl

after_sent : (r : ReaderValue) (s b : ℕ) → after_byte (with_sent r s) b ≡ with_sent (after_byte r b) s
unfolding after_byte
after_sent r s b = byte_sent r s r.stage b

given_sent : (r : ReaderValue) (s b : ℕ) → given_by (with_sent r s) b ≡ given_by r b
unfolding given_by
given_sent r s b = refl

pub read_on-sent : (r : ReaderValue) (s : ℕ) (bytes : List ℕ)
    → read_on (with_sent r s) bytes ≡ with_sent (read_on r bytes) s
read_on-sent r s [] = refl
read_on-sent r s (b ∷ bytes) = ap (λ x. read_on x bytes) (after_sent r s b) ∙ read_on-sent (after_byte r b) s bytes

pub given_from-sent : (r : ReaderValue) (s : ℕ) (bytes : List ℕ) → given_from (with_sent r s) bytes ≡ given_from r bytes
given_from-sent r s [] = refl
given_from-sent r s (b ∷ bytes) =
    ap (λ gs. gs ++ given_from (after_byte (with_sent r s) b) bytes) (given_sent r s b)
    ∙ ap (λ x. given_by r b ++ given_from x bytes) (after_sent r s b)
    ∙ ap (λ gs. given_by r b ++ gs) (given_from-sent (after_byte r b) s bytes)

-- ---- what is asked grows

-- There is more behind the first bytes.
abbrev pub Grows : List ℕ → List ℕ → Type 0
Grows asked asked' = (more : List ℕ) × (asked' ≡ asked ++ more)

same : (asked : List ℕ) → Grows asked asked
same asked = ([], sym (append-nil asked))

asking_grows : (r : ReaderValue) (ahead : List Command) → Grows r.asked (asking r ahead).asked
asking_grows r [] = same r.asked
asking_grows r (c ∷ ahead) = (ended c.line, refl)

refusing_grows : (q r : ReaderValue) (b : Bool) → q.asked ≡ r.asked → Grows r.asked (if b then q else ask_next r).asked
refusing_grows q r true is = ([], is ∙ sym (append-nil r.asked))
refusing_grows q r false is = asking_grows r r.ahead

first_grows : (r : ReaderValue) (count b : ℕ) (p : LinePiece) → Grows r.asked (first_line r count b p).asked
first_grows r count b line.Whole = same r.asked
first_grows r count b line.Open = same r.asked
first_grows r count b line.Other = same r.asked

second_grows : (r : ReaderValue) (count b : ℕ) (p : LinePiece) → Grows r.asked (second_line r count b p).asked
second_grows r count b line.Whole = asking_grows r r.ahead
second_grows r count b line.Open = same r.asked
second_grows r count b line.Other = same r.asked

answered_grows : (r : ReaderValue) (want count : ℕ) (p : ReplyPiece) → Grows r.asked (answered r want count p).asked
answered_grows r want count (reply.Whole true) = refusing_grows
    (record r { stage = Failed AllRefused; ahead = without want r.ahead; kept = r.kept - 1 })
    (record r { ahead = without want r.ahead; kept = r.kept - 1 }) (r.kept - 1 == 0) refl
answered_grows r want count (reply.Whole false) = asking_grows r r.ahead
answered_grows r want count (reply.Open is_error) = same r.asked
answered_grows r want count reply.Other = same r.asked

transferred_grows : (r : ReaderValue) (bytes : List ℕ) (p : Piece) → Grows r.asked (transferred r bytes p).asked
transferred_grows r bytes WholePacket = same r.asked
transferred_grows r bytes TheEnd = same r.asked
transferred_grows r bytes Beginning = same r.asked
transferred_grows r bytes NoPiece = same r.asked

byte_grows : (r : ReaderValue) (stage : Stage) (b : ℕ) → Grows r.asked (byte_at r stage b).asked
byte_grows r (FirstLine count after_cr) b = first_grows r count b (line_piece greeting count after_cr b)
byte_grows r (SecondLine count after_cr) b = second_grows r count b (line_piece [] count after_cr b)
byte_grows r (Answer want count is_error) b = answered_grows r want count (reply_piece count is_error b)
byte_grows r (Transfer rest) b = transferred_grows r (rest ++ b ∷ []) (piece_of (rest ++ b ∷ []))
byte_grows r Over b = same r.asked
byte_grows r (Failed fault) b = same r.asked

after_grows : (r : ReaderValue) (b : ℕ) → Grows r.asked (after_byte r b).asked
unfolding after_byte
after_grows r b = byte_grows r r.stage b

grows-trans : (a b c : List ℕ) → Grows a b → Grows b c → Grows a c
grows-trans a b c first second =
    (first.0 ++ second.0, second.1 ∙ ap (λ x. x ++ second.0) first.1 ∙ append_assoc a first.0 second.0)

pub asked-grows : (r : ReaderValue) (bytes : List ℕ) → Grows r.asked (read_on r bytes).asked
asked-grows r [] = same r.asked
asked-grows r (b ∷ bytes) = grows-trans r.asked (after_byte r b).asked (read_on (after_byte r b) bytes).asked
    (after_grows r b) (asked-grows (after_byte r b) bytes)
