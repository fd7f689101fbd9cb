-- Laws over the dialogue: what is read of bytes in pieces, and up to the first thing that is given.
use Rattle.std.proofs.Common.{◌≡◌, ℕ, ◌+◌, ◌<◌, ◌≤◌, List, [], ◌∷◌, ◌++◌, length, take, Some, None, refl, sym, ap, ◌∙◌}
use Rattle.std.proofs.Common.{arith, append_assoc, suc}
use Rattle.std.specs.Prelude.{Option}
use Rattle.std.specs.Option.{option_to_list}
use Rattle.std.proofs.Common.{true, false}
use Rattle.protocol.specs.Streams.{Piece, piece_of}
use Rattle.protocol.specs.Streams.Piece.{WholePacket, TheEnd, Beginning, NoPiece}
use Rattle.slreader.specs.declared.pieces.LinePiece.{LinePiece}
use Rattle.slreader.specs.declared.pieces.LinePiece.TheVariants as line
use Rattle.slreader.specs.declared.pieces.ReplyPiece.{ReplyPiece}
use Rattle.slreader.specs.declared.pieces.ReplyPiece.TheVariants as reply
use Rattle.slreader.specs.Pieces.{line_piece, reply_piece}
use Rattle.slreader.specs.Dialogue.{ReaderValue, Stage, Given, FirstGiven, after_byte, given_by, given_at, byte_at}
use Rattle.slreader.specs.Dialogue.{transferred, hello_given, refusal_given, packet_given, given_from, read_on}
use Rattle.slreader.specs.Dialogue.{read_first, goes_on, outcome_of, outcome_in, outcome_at}
use Rattle.slreader.specs.Dialogue.Stage.{FirstLine, SecondLine, Answer, Transfer, Over, Failed}
use Rattle.slreader.specs.Dialogue.Given.{End}
use Rattle.slreader.specs.Dialogue.Outcome.{Gave}

-- ---- bytes in two parts

pub read_on-append : (r : ReaderValue) (bytes more : List ℕ)
    → read_on r (bytes ++ more) ≡ read_on (read_on r bytes) more
read_on-append r [] more = refl
read_on-append r (b ∷ bytes) more = read_on-append (after_byte r b) bytes more

pub given_from-append : (r : ReaderValue) (bytes more : List ℕ)
    → given_from r (bytes ++ more) ≡ given_from r bytes ++ given_from (read_on r bytes) more
given_from-append r [] more = refl
given_from-append r (b ∷ bytes) more = ap (λ l. given_by r b ++ l) (given_from-append (after_byte r b) bytes more)
    ∙ sym
    (append_assoc (given_by r b) (given_from (after_byte r b) bytes) (given_from (read_on (after_byte r b) bytes) more))

-- ---- up to the first thing that is given

within_step : (gs : List Given) (r : ReaderValue) (f : FirstGiven) (n : ℕ) → f.used ≤ n → (goes_on gs r f).used ≤ suc n
within_step [] r f n h = omega arith
within_step (g ∷ gs) r f n h = omega arith

pub first_within : (r : ReaderValue) (bytes : List ℕ) → (read_first r bytes).used ≤ length bytes
first_within r [] = omega arith
first_within r (b ∷ bytes) = within_step (given_by r b) (after_byte r b) (read_first (after_byte r b) bytes)
    (length bytes) (first_within (after_byte r b) bytes)

some_step : (gs : List Given) (r : ReaderValue) (f : FirstGiven) → 0 < (goes_on gs r f).used
some_step [] r f = omega arith
some_step (g ∷ gs) r f = omega arith

pub first_some : (r : ReaderValue) (bytes : List ℕ) (g : Given) → (read_first r bytes).given ≡ Some g
    → 0 < (read_first r bytes).used
first_some r [] g is = absurd cc
first_some r (b ∷ bytes) g is = some_step (given_by r b) (after_byte r b) (read_first (after_byte r b) bytes)

all_step : (gs : List Given) (r : ReaderValue) (f : FirstGiven) (n : ℕ) → (f.given ≡ None → f.used ≡ n)
    → (goes_on gs r f).given ≡ None → (goes_on gs r f).used ≡ suc n
all_step [] r f n h is = let more = h is in omega arith
all_step (g ∷ gs) r f n h is = absurd cc

pub first_all : (r : ReaderValue) (bytes : List ℕ) → (read_first r bytes).given ≡ None
    → (read_first r bytes).used ≡ length bytes
first_all r [] is = refl
first_all r (b ∷ bytes) is = all_step (given_by r b) (after_byte r b) (read_first (after_byte r b) bytes) (length bytes)
    (first_all (after_byte r b) bytes) is

-- A byte gives one thing at most.
abbrev IsFew : List Given → Type 0
IsFew [] = Unit {0}
IsFew (g ∷ []) = Unit {0}
IsFew (g ∷ h ∷ gs) = ⊥

-- ---- what a call answered

gave_at : (u n : ℕ) (g : Option Given) (s : Stage) → Gave u g ≡ outcome_at n s → (u ≡ n) × (g ≡ None)
gave_at u n g (FirstLine count after_cr) e = (cc, cc)
gave_at u n g (SecondLine count after_cr) e = (cc, cc)
gave_at u n g (Answer want count is_error) e = (cc, cc)
gave_at u n g (Transfer rest) e = (cc, cc)
gave_at u n g Over e = (cc, cc)
gave_at u n g (Failed fault) e = absurd cc

gave_in : (u n : ℕ) (g h : Option Given) (s : Stage) → Gave u g ≡ outcome_in n h s → (u ≡ n) × (g ≡ h)
gave_in u n g None s e = gave_at u n g s e
gave_in u n g (Some h) s e = (cc, cc)

pub gave_is : (u : ℕ) (g : Option Given) (f : FirstGiven) → Gave u g ≡ outcome_of f → (u ≡ f.used) × (g ≡ f.given)
gave_is u g f e = gave_in u f.used g f.given f.reader.stage e

-- ---- that is: the bytes up to there are read one by one, and give that alone

few_line : (p : LinePiece) → IsFew (hello_given p)
few_line line.Whole = tt
few_line line.Open = tt
few_line line.Other = tt

few_reply : (want : ℕ) (p : ReplyPiece) → IsFew (refusal_given want p)
few_reply want (reply.Whole true) = tt
few_reply want (reply.Whole false) = tt
few_reply want (reply.Open is_error) = tt
few_reply want reply.Other = tt

few_packet : (bytes : List ℕ) (p : Piece) → IsFew (packet_given bytes p)
few_packet bytes WholePacket = tt
few_packet bytes TheEnd = tt
few_packet bytes Beginning = tt
few_packet bytes NoPiece = tt

few_at : (s : Stage) (b : ℕ) → IsFew (given_at s b)
few_at (FirstLine count after_cr) b = tt
few_at (SecondLine count after_cr) b = few_line (line_piece [] count after_cr b)
few_at (Answer want count is_error) b = few_reply want (reply_piece count is_error b)
few_at (Transfer rest) b = few_packet (rest ++ b ∷ []) (piece_of (rest ++ b ∷ []))
few_at Over b = tt
few_at (Failed fault) b = tt

few_given : (r : ReaderValue) (b : ℕ) → IsFew (given_by r b)
unfolding given_by
few_given r b = few_at r.stage b

one_more : (n : ℕ) → 1 + n ≡ suc n
one_more n = omega arith

reader_step : (gs : List Given) (r : ReaderValue) (b : ℕ) (bytes : List ℕ) (f : FirstGiven)
    → f.reader ≡ read_on (after_byte r b) (take f.used bytes)
    → (goes_on gs (after_byte r b) f).reader ≡ read_on r (take (goes_on gs (after_byte r b) f).used (b ∷ bytes))
reader_step [] r b bytes f h = rw (one_more f.used) h
reader_step (g ∷ gs) r b bytes f h = refl

pub first_reader : (r : ReaderValue) (bytes : List ℕ)
    → (read_first r bytes).reader ≡ read_on r (take (read_first r bytes).used bytes)
first_reader r [] = refl
first_reader r (b ∷ bytes) = reader_step (given_by r b) r b bytes (read_first (after_byte r b) bytes)
    (first_reader (after_byte r b) bytes)

given_step : (gs : List Given) (r : ReaderValue) (b : ℕ) (bytes : List ℕ) (f : FirstGiven) → given_by r b ≡ gs
    → IsFew gs → given_from (after_byte r b) (take f.used bytes) ≡ option_to_list f.given
    → given_from r (take (goes_on gs (after_byte r b) f).used (b ∷ bytes))
    ≡ option_to_list (goes_on gs (after_byte r b) f).given
given_step [] r b bytes f is few h =
    rw (one_more f.used) (ap (λ l. l ++ given_from (after_byte r b) (take f.used bytes)) is ∙ h)
given_step (g ∷ []) r b bytes f is few h = ap (λ l. l ++ []) is
given_step (g ∷ i ∷ gs) r b bytes f is few h = absurd few

pub first_given : (r : ReaderValue) (bytes : List ℕ)
    → given_from r (take (read_first r bytes).used bytes) ≡ option_to_list (read_first r bytes).given
first_given r [] = refl
first_given r (b ∷ bytes) = given_step (given_by r b) r b bytes (read_first (after_byte r b) bytes) refl (few_given r b)
    (first_given (after_byte r b) bytes)

-- ---- the end is given: nothing more is read

hello_end : (p : LinePiece) (hs : List Given) → hello_given p ≡ End ∷ hs → ⊥
hello_end line.Whole hs e = absurd cc
hello_end line.Open hs e = absurd cc
hello_end line.Other hs e = absurd cc

refusal_end : (want : ℕ) (p : ReplyPiece) (hs : List Given) → refusal_given want p ≡ End ∷ hs → ⊥
refusal_end want (reply.Whole true) hs e = absurd cc
refusal_end want (reply.Whole false) hs e = absurd cc
refusal_end want (reply.Open is_error) hs e = absurd cc
refusal_end want reply.Other hs e = absurd cc

packet_end : (r : ReaderValue) (bytes : List ℕ) (p : Piece) (hs : List Given) → packet_given bytes p ≡ End ∷ hs
    → (transferred r bytes p).stage ≡ Over
packet_end r bytes WholePacket hs e = absurd cc
packet_end r bytes TheEnd hs e = refl
packet_end r bytes Beginning hs e = absurd cc
packet_end r bytes NoPiece hs e = absurd cc

end_at : (r : ReaderValue) (s : Stage) (b : ℕ) (hs : List Given) → given_at s b ≡ End ∷ hs
    → (byte_at r s b).stage ≡ Over
end_at r (FirstLine count after_cr) b hs e = absurd cc
end_at r (SecondLine count after_cr) b hs e = absurd (hello_end (line_piece [] count after_cr b) hs e)
end_at r (Answer want count is_error) b hs e = absurd (refusal_end want (reply_piece count is_error b) hs e)
end_at r (Transfer rest) b hs e = packet_end r (rest ++ b ∷ []) (piece_of (rest ++ b ∷ [])) hs e
end_at r Over b hs e = absurd cc
end_at r (Failed fault) b hs e = absurd cc

end_by : (r : ReaderValue) (b : ℕ) (hs : List Given) → given_by r b ≡ End ∷ hs → (after_byte r b).stage ≡ Over
unfolding given_by after_byte
end_by r b hs e = end_at r r.stage b hs e

end_step : (gs : List Given) (r : ReaderValue) (f : FirstGiven) → ((hs : List Given) → gs ≡ End ∷ hs → r.stage ≡ Over) →
    (f.given ≡ Some End → f.reader.stage ≡ Over) → (goes_on gs r f).given ≡ Some End
    → (goes_on gs r f).reader.stage ≡ Over
end_step [] r f one more is = more is
end_step (g ∷ gs) r f one more is = one gs cc

pub end_first : (r : ReaderValue) (bytes : List ℕ) → (read_first r bytes).given ≡ Some End
    → (read_first r bytes).reader.stage ≡ Over
end_first r [] is = absurd cc
end_first r (b ∷ bytes) is = end_step (given_by r b) (after_byte r b) (read_first (after_byte r b) bytes) (end_by r b)
    (end_first (after_byte r b) bytes) is
