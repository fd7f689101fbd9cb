-- Laws over the faults of a dialogue: none is of a plan.
use Rattle.std.proofs.Common.{◌≡◌, ◌≢◌, ℕ, List, [], ◌∷◌, ◌++◌, true, false, Some, None, refl, sym, ap, ◌∙◌}
use Rattle.std.specs.Prelude.{Bool, Option, if◌then◌else◌, ◌==◌, ◌-◌}
use Rattle.protocol.specs.Streams.{Piece, piece_of}
use Rattle.protocol.specs.Streams.Piece.{WholePacket, TheEnd, Beginning, NoPiece}
use Rattle.slreader.specs.declared.fault.ReaderFault.TheVariants.{Limit, OutOfMemory, NotAPacket, AllRefused, BadReply}
use Rattle.slreader.specs.declared.pieces.LinePiece.{LinePiece}
use Rattle.slreader.specs.declared.pieces.LinePiece.TheVariants as line
use Rattle.slreader.specs.declared.pieces.ReplyPiece.{ReplyPiece}
use Rattle.slreader.specs.declared.pieces.ReplyPiece.TheVariants as reply
use Rattle.slreader.specs.Pieces.{greeting, line_piece, reply_piece}
use Rattle.slreader.specs.Wants.{Command}
use Rattle.slreader.specs.Lines.{without}
use Rattle.slreader.specs.Dialogue.{ReaderValue, Stage, after_byte, byte_at, asking, ask_next, stage_after}
use Rattle.slreader.specs.Dialogue.{first_line, second_line, answered, transferred, read_on}
use Rattle.slreader.specs.Dialogue.Stage.{FirstLine, SecondLine, Answer, Transfer, Over, Failed}

-- the plan was refused
abbrev is_limit : Stage → Bool
is_limit (FirstLine count after_cr) = false
is_limit (SecondLine count after_cr) = false
is_limit (Answer want count is_error) = false
is_limit (Transfer rest) = false
is_limit Over = false
is_limit (Failed Limit) = true
is_limit (Failed OutOfMemory) = false
is_limit (Failed NotAPacket) = false
is_limit (Failed AllRefused) = false
is_limit (Failed BadReply) = false

-- Neither the stage nor what follows it is a refusal of the plan.
after_fits : (want : Option ℕ) → is_limit (stage_after want) ≡ false
after_fits None = refl
after_fits (Some want) = refl

asking_fits : (r : ReaderValue) (ahead : List Command) → is_limit (asking r ahead).stage ≡ false
asking_fits r [] = refl
asking_fits r (c ∷ ahead) = after_fits c.want

refusing_fits : (q r : ReaderValue) (b : Bool) → is_limit q.stage ≡ false
    → is_limit (if b then q else ask_next r).stage ≡ false
refusing_fits q r true h = h
refusing_fits q r false h = asking_fits r r.ahead

first_fits : (r : ReaderValue) (count b : ℕ) (p : LinePiece) → is_limit (first_line r count b p).stage ≡ false
first_fits r count b line.Whole = refl
first_fits r count b line.Open = refl
first_fits r count b line.Other = refl

second_fits : (r : ReaderValue) (count b : ℕ) (p : LinePiece) → is_limit (second_line r count b p).stage ≡ false
second_fits r count b line.Whole = asking_fits r r.ahead
second_fits r count b line.Open = refl
second_fits r count b line.Other = refl

answered_fits : (r : ReaderValue) (want count : ℕ) (p : ReplyPiece) → is_limit (answered r want count p).stage ≡ false
answered_fits r want count (reply.Whole true) = refusing_fits
    (record r { stage = Failed AllRefused; ahead = without want r.ahead; kept = r.kept - 1 })
    (record r { ahead = without want r.ahead; kept = r.kept - 1 }) (r.kept - 1 == 0) refl
answered_fits r want count (reply.Whole false) = asking_fits r r.ahead
answered_fits r want count (reply.Open is_error) = refl
answered_fits r want count reply.Other = refl

transferred_fits : (r : ReaderValue) (bytes : List ℕ) (p : Piece) → is_limit (transferred r bytes p).stage ≡ false
transferred_fits r bytes WholePacket = refl
transferred_fits r bytes TheEnd = refl
transferred_fits r bytes Beginning = refl
transferred_fits r bytes NoPiece = refl

byte_fits : (r : ReaderValue) (stage : Stage) (b : ℕ) → is_limit r.stage ≡ false
    → is_limit (byte_at r stage b).stage ≡ false
byte_fits r (FirstLine count after_cr) b h = first_fits r count b (line_piece greeting count after_cr b)
byte_fits r (SecondLine count after_cr) b h = second_fits r count b (line_piece [] count after_cr b)
byte_fits r (Answer want count is_error) b h = answered_fits r want count (reply_piece count is_error b)
byte_fits r (Transfer rest) b h = transferred_fits r (rest ++ b ∷ []) (piece_of (rest ++ b ∷ []))
byte_fits r Over b h = refl
byte_fits r (Failed fault) b h = h

after_byte_fits : (r : ReaderValue) (b : ℕ) → is_limit r.stage ≡ false → is_limit (after_byte r b).stage ≡ false
unfolding after_byte
after_byte_fits r b h = byte_fits r r.stage b h

read_fits : (r : ReaderValue) (bytes : List ℕ) → is_limit r.stage ≡ false → is_limit (read_on r bytes).stage ≡ false
read_fits r [] h = h
read_fits r (b ∷ bytes) h = read_fits (after_byte r b) bytes (after_byte_fits r b h)

fits-if : (s : Stage) → s ≢ Failed Limit → is_limit s ≡ false
fits-if (FirstLine count after_cr) h = refl
fits-if (SecondLine count after_cr) h = refl
fits-if (Answer want count is_error) h = refl
fits-if (Transfer rest) h = refl
fits-if Over h = refl
fits-if (Failed Limit) h = absurd (h refl)
fits-if (Failed OutOfMemory) h = refl
fits-if (Failed NotAPacket) h = refl
fits-if (Failed AllRefused) h = refl
fits-if (Failed BadReply) h = refl

no-limit : (s : Stage) → is_limit s ≡ false → s ≢ Failed Limit
no-limit s h e = absurd (let both : is_limit (Failed Limit) ≡ false = sym (ap is_limit e)
    ∙ h in let other : true ≡ false = both in cc)

-- A dialogue whose plan was taken does not refuse it later.
pub read-no-limit : (r : ReaderValue) (bytes : List ℕ) → r.stage ≢ Failed Limit → (read_on r bytes).stage ≢ Failed Limit
read-no-limit r bytes h = no-limit (read_on r bytes).stage (read_fits r bytes (fits-if r.stage h))
