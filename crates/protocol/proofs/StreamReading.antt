-- A stream of packets that is read byte by byte is read as the stream that it is.
use Rattle.std.proofs.Common.{◌≡◌, ℕ, ◌+◌, ◌<◌, ◌≤◌, Bool, true, false, ◌==◌, true≢false, List, [], ◌∷◌, ◌++◌, length}
use Rattle.std.proofs.Common.{refl, sym, ap, ◌∙◌, subst, arith, append_assoc, append-nil, length-append, eqb-true}
use Rattle.std.proofs.Common.{ne_eqb, inl, inr}
use Rattle.std.specs.Prelude.{All, ◌↔◌, codes}
use Rattle.std.specs.List.{concat}
use Rattle.std.specs.Str.{bytes_eq}
use Rattle.std.proofs.lemmas.Bool.{eqb-false, and_parts}
use Rattle.std.proofs.lemmas.List.Elements.{All-nil, All-push, All-head, All-tail}
use Rattle.std.proofs.lemmas.List.Folds.{concat-append}
use Rattle.std.proofs.lemmas.Slice.Eq.{bytes_eq-Decides}
use Rattle.protocol.specs.Packet.{IsSomePacket}
use Rattle.protocol.specs.Reading.{Not}
use Rattle.protocol.specs.Streams.{end_mark, IsUnfinished, IsPacketStream, BeginsStream, may_continue, begins_end}
use Rattle.protocol.specs.Streams.{Piece, piece_of, StreamRead, joined_piece, stream_byte, stream_from, stream_of}
use Rattle.protocol.specs.Streams.Piece.{WholePacket, TheEnd, Beginning, NoPiece}
use Rattle.protocol.specs.Streams.StreamRead.{Going, Ended, NoStream}
use Rattle.protocol.proofs.FoundLemmas.{both}
use Rattle.protocol.proofs.FrameLemmas.{packet_length, unfinished_short, nothing_unfinished, one_stream}
use Rattle.protocol.proofs.PacketBytes.{packet_continues, whole_packet, begun_packet, may_continue-append}

-- ---- pieces of the bytes
pub stream_from-append : (r : StreamRead) (bytes more : List ℕ)
    → stream_from r (bytes ++ more) ≡ stream_from (stream_from r bytes) more
stream_from-append r [] more = refl
stream_from-append r (b ∷ bytes) more = stream_from-append (stream_byte r b) bytes more

no_stream_stays : (bytes : List ℕ) → stream_from NoStream bytes ≡ NoStream
no_stream_stays [] = refl
no_stream_stays (b ∷ bytes) = no_stream_stays bytes

-- ---- what a piece is, is true of it
abbrev IsPiece : List ℕ → Piece → Type 0
IsPiece bytes WholePacket = IsSomePacket bytes
IsPiece bytes TheEnd = codes "END" ≡ bytes
IsPiece bytes Beginning = IsUnfinished bytes
IsPiece bytes NoPiece = Unit {0}

is_text : (bytes text : List ℕ) → bytes_eq bytes text ≡ true → bytes ≡ text
is_text bytes text e = (bytes_eq-Decides bytes text).0 e

begun_end : (bytes : List ℕ) → begins_end bytes ≡ true → IsUnfinished bytes
begun_end bytes e =
    both (bytes_eq bytes (codes "E"))
    (λ y. subst IsUnfinished (sym (is_text bytes (codes "E") y)) (codes "ND", λ n. absurd cc, inr refl))
    (λ n. subst IsUnfinished (sym (is_text bytes (codes "EN") (rw n at e))) (codes "D", λ n. absurd cc, inr refl))

is_piece : (bytes : List ℕ) → length bytes ≤ 520 → IsPiece bytes (piece_of bytes)
is_piece bytes short =
    both (may_continue 0 bytes)
    (λ may. both (length bytes == 520)
    (λ y. rw (may, y) (whole_packet bytes (eqb-true (length bytes) 520 y) may))
    (λ n. let ne = eqb-false (length bytes) 520 n in rw (may, n) (begun_packet bytes (omega arith) may)))
    (λ not. both (bytes_eq bytes (codes "END"))
    (λ y. rw (not, y) (sym (is_text bytes (codes "END") y)))
    (λ n. both (begins_end bytes) (λ y. rw (not, n, y) (begun_end bytes y)) (λ m. rw (not, n, m) tt)))

-- ---- what is read so far is true of the bytes so far
abbrev IsRead : List ℕ → StreamRead → Type 0
IsRead bytes (Going packets rest) = IsPacketStream bytes packets false rest
IsRead bytes (Ended packets) = IsPacketStream bytes packets true []
IsRead bytes NoStream = Unit {0}

joins : (bytes : List ℕ) (packets : List (List ℕ)) (rest : List ℕ) (b : ℕ) → IsPacketStream bytes packets false rest
    → (p : Piece) → IsPiece (rest ++ b ∷ []) p → IsRead (bytes ++ b ∷ []) (joined_piece packets (rest ++ b ∷ []) p)
joins bytes packets rest b so_far p is =
    let whole : concat packets ++ (rest ++ b ∷ []) ≡ bytes ++ b ∷ [] = sym (append_assoc (concat packets) rest (b ∷ []))
    ∙ ap (λ l. l ++ b ∷ []) so_far.whole in
    by_piece p is whole
  where
    by_piece : (p : Piece) → IsPiece (rest ++ b ∷ []) p → concat packets ++ (rest ++ b ∷ []) ≡ bytes ++ b ∷ []
        → IsRead (bytes ++ b ∷ []) (joined_piece packets (rest ++ b ∷ []) p)
    by_piece WholePacket is whole = record {
      each = All-push IsSomePacket packets (rest ++ b ∷ []) so_far.each is;
      whole = append-nil (concat (packets ++ (rest ++ b ∷ []) ∷ [])) ∙ concat-append packets ((rest ++ b ∷ []) ∷ [])
          ∙ ap (λ l. concat packets ++ l) (append-nil (rest ++ b ∷ [])) ∙ whole;
      nothing_more = λ e. absurd (true≢false (sym e));
      unfinished = λ e. nothing_unfinished;
    }
    by_piece TheEnd is whole = record {
      each = so_far.each;
      whole = ap (λ l. concat packets ++ l) is ∙ whole;
      nothing_more = λ e. refl;
      unfinished = λ e. absurd (true≢false e);
    }
    by_piece Beginning is whole = record {
      each = so_far.each;
      whole = whole;
      nothing_more = λ e. absurd (true≢false (sym e));
      unfinished = λ e. is;
    }
    by_piece NoPiece is whole = tt

byte_read : (bytes : List ℕ) (b : ℕ) (r : StreamRead) → IsRead bytes r → IsRead (bytes ++ b ∷ []) (stream_byte r b)
byte_read bytes b (Going packets rest) is =
    let short = unfinished_short rest (is.unfinished refl) in
    let size : length (rest ++ b ∷ []) ≤ 520 = rw (length-append rest (b ∷ [])) (omega arith) in
    joins bytes packets rest b is (piece_of (rest ++ b ∷ [])) (is_piece (rest ++ b ∷ []) size)
byte_read bytes b (Ended packets) is = tt
byte_read bytes b NoStream is = tt

all_read : (bytes more : List ℕ) (r : StreamRead) → IsRead bytes r → IsRead (bytes ++ more) (stream_from r more)
all_read bytes [] r is = subst (λ l. IsRead l r) (sym (append-nil bytes)) is
all_read bytes (b ∷ more) r is =
    subst (λ l. IsRead l (stream_from (stream_byte r b) more)) (append_assoc bytes (b ∷ []) more)
    (all_read (bytes ++ b ∷ []) more (stream_byte r b) (byte_read bytes b r is))

nothing_read : IsPacketStream [] [] false []
nothing_read = record {
  each = All-nil IsSomePacket;
  whole = refl;
  nothing_more = λ e. refl;
  unfinished = λ e. nothing_unfinished;
}

is_read : (bytes : List ℕ) → IsRead bytes (stream_of bytes)
is_read bytes = all_read [] bytes (Going [] []) nothing_read

-- ---- and a stream is read, as far as it goes
takes_packet : (packets : List (List ℕ)) (begun bytes : List ℕ) → 0 < length bytes
    → may_continue 0 (begun ++ bytes) ≡ true → length (begun ++ bytes) ≡ 520
    → stream_from (Going packets begun) bytes ≡ Going (packets ++ (begun ++ bytes) ∷ []) []
takes_packet packets begun [] some may size = absurd (omega arith)
takes_packet packets begun (b ∷ []) some may size = rw (may, size)
takes_packet packets begun (b ∷ c ∷ bytes) some may size =
    let parted : (begun ++ b ∷ []) ++ c ∷ bytes ≡ begun ++ b ∷ c ∷ bytes = append_assoc begun (b ∷ []) (c ∷ bytes) in
    let may' : may_continue 0 ((begun ++ b ∷ []) ++ c ∷ bytes) ≡ true = ap (may_continue 0) parted ∙ may in
    let size' : length ((begun ++ b ∷ []) ++ c ∷ bytes) ≡ 520 = ap length parted ∙ size in
    let here = and_parts (may_continue 0 (begun ++ b ∷ [])) (may_continue (0 + length (begun ++ b ∷ [])) (c ∷ bytes))
    (sym (may_continue-append 0 (begun ++ b ∷ []) (c ∷ bytes)) ∙ may') in
    let longer = length-append (begun ++ b ∷ []) (c ∷ bytes) in
    let not_yet : (length (begun ++ b ∷ []) == 520)
    ≡ false = ne_eqb (length (begun ++ b ∷ [])) 520 (λ e. absurd (omega arith)) in
    rw (here.0, not_yet) (takes_packet packets (begun ++ b ∷ []) (c ∷ bytes) (omega arith) may' size'
    ∙ ap (λ l. Going (packets ++ l ∷ []) []) parted)

abbrev read_as : List (List ℕ) → Bool → StreamRead
read_as packets true = Ended packets
read_as packets false = Going packets []

takes_end : (packets : List (List ℕ)) (ended : Bool)
    → stream_from (Going packets []) (end_mark ended) ≡ read_as packets ended
takes_end packets true = refl
takes_end packets false = refl

takes_all : (before packets : List (List ℕ)) (ended : Bool) → All IsSomePacket packets
    → stream_from (Going before []) (concat packets ++ end_mark ended) ≡ read_as (before ++ packets) ended
takes_all before [] ended each = takes_end before ended ∙ ap (λ l. read_as l ended) (sym (append-nil before))
takes_all before (p ∷ packets) ended each =
    let first = All-head IsSomePacket p packets each in
    let size : length p ≡ 520 = packet_length first.0 first.1 p first.2 in
    ap (stream_from (Going before [])) (append_assoc p (concat packets) (end_mark ended))
    ∙ stream_from-append (Going before []) p (concat packets ++ end_mark ended)
    ∙ ap (λ r. stream_from r (concat packets ++ end_mark ended))
    (takes_packet before [] p (omega arith) (packet_continues p first) size)
    ∙ takes_all (before ++ p ∷ []) packets ended (All-tail IsSomePacket p packets each)
    ∙ ap (λ l. read_as l ended) (append_assoc before (p ∷ []) packets)

read_as_some : (packets : List (List ℕ)) (ended : Bool) → read_as packets ended ≡ NoStream → ⊥
read_as_some packets true e = cc
read_as_some packets false e = cc

begun_is_read : (bytes : List ℕ) → BeginsStream bytes → stream_of bytes ≡ NoStream → ⊥
begun_is_read bytes (more, packets, ended, s) none =
    let whole : concat packets ++ end_mark ended
    ≡ bytes ++ more = ap (λ l. concat packets ++ l) (sym (append-nil (end_mark ended))) ∙ s.whole in
    read_as_some packets ended
    (sym (takes_all [] packets ended s.each)
    ∙ ap (stream_from (Going [] [])) whole
    ∙ stream_from-append (Going [] []) bytes more
    ∙ ap (λ r. stream_from r more) none
    ∙ no_stream_stays more)

-- ---- what is no whole stream yet begins one
ended_stream : (bytes : List ℕ) (packets : List (List ℕ)) (more : List ℕ) (ended : Bool) → All IsSomePacket packets
    → concat packets ++ end_mark ended ≡ bytes ++ more → BeginsStream bytes
ended_stream bytes packets more ended each whole = (
  more,
  packets,
  ended,
  record {
    each = each;
    whole = ap (λ l. concat packets ++ l) (append-nil (end_mark ended)) ∙ whole;
    nothing_more = λ e. refl;
    unfinished = λ e. nothing_unfinished;
  },
)

goes_on : (bytes : List ℕ) (packets : List (List ℕ)) (rest : List ℕ) → All IsSomePacket packets
    → concat packets ++ rest ≡ bytes → IsUnfinished rest → BeginsStream bytes
goes_on bytes packets rest each whole (more, some, inl p) =
    ended_stream bytes (packets ++ (rest ++ more) ∷ []) more false (All-push IsSomePacket packets (rest ++ more) each p)
    (append-nil (concat (packets ++ (rest ++ more) ∷ []))
    ∙ concat-append packets ((rest ++ more) ∷ [])
    ∙ ap (λ l. concat packets ++ l) (append-nil (rest ++ more))
    ∙ sym (append_assoc (concat packets) rest more)
    ∙ ap (λ l. l ++ more) whole)
goes_on bytes packets rest each whole (more, some, inr e) =
    ended_stream bytes packets more true each (ap (λ l. concat packets ++ l) (sym e)
    ∙ sym (append_assoc (concat packets) rest more) ∙ ap (λ l. l ++ more) whole)

begins : (bytes : List ℕ) (packets : List (List ℕ)) (ended : Bool) (rest : List ℕ)
    → IsPacketStream bytes packets ended rest → BeginsStream bytes
begins bytes packets true rest s =
    ended_stream bytes packets [] true s.each
    (ap (λ l. concat packets ++ l) (sym (append-nil (codes "END"))
    ∙ ap (λ l. codes "END" ++ l) (sym (s.nothing_more refl))) ∙ s.whole ∙ sym (append-nil bytes))
begins bytes packets false rest s = goes_on bytes packets rest s.each s.whole (s.unfinished refl)

-- ---- the laws
reads_going : (bytes : List ℕ) (packets : List (List ℕ)) (rest : List ℕ) (r : StreamRead) → IsRead bytes r
    → (r ≡ NoStream → ⊥) → IsPacketStream bytes packets false rest → r ≡ Going packets rest
reads_going bytes packets rest (Going packets' rest') is some s =
    let same = one_stream bytes packets' packets false false rest' rest is s in cc
reads_going bytes packets rest (Ended packets') is some s =
    let same = one_stream bytes packets' packets true false [] rest is s in absurd (true≢false same.end)
reads_going bytes packets rest NoStream is some s = absurd (some refl)

reads_ended : (bytes : List ℕ) (packets : List (List ℕ)) (r : StreamRead) → IsRead bytes r → (r ≡ NoStream → ⊥)
    → IsPacketStream bytes packets true [] → r ≡ Ended packets
reads_ended bytes packets (Going packets' rest') is some s =
    let same = one_stream bytes packets packets' true false [] rest' s is in absurd (true≢false same.end)
reads_ended bytes packets (Ended packets') is some s =
    let same = one_stream bytes packets' packets true true [] [] is s in cc
reads_ended bytes packets NoStream is some s = absurd (some refl)

reads_none : (bytes : List ℕ) (r : StreamRead) → IsRead bytes r → Not (BeginsStream bytes) → r ≡ NoStream
reads_none bytes (Going packets rest) is none = absurd (none (begins bytes packets false rest is))
reads_none bytes (Ended packets) is none = absurd (none (begins bytes packets true [] is))
reads_none bytes NoStream is none = refl

pub going_law : (bytes : List ℕ) (packets : List (List ℕ)) (rest : List ℕ)
    → (stream_of bytes ≡ Going packets rest) ↔ IsPacketStream bytes packets false rest
going_law bytes packets rest = (
  λ e. subst (IsRead bytes) e (is_read bytes),
  λ s. reads_going bytes packets rest (stream_of bytes) (is_read bytes)
      (begun_is_read bytes (begins bytes packets false rest s)) s,
)

pub ended_law : (bytes : List ℕ) (packets : List (List ℕ))
    → (stream_of bytes ≡ Ended packets) ↔ IsPacketStream bytes packets true []
ended_law bytes packets = (
  λ e. subst (IsRead bytes) e (is_read bytes),
  λ s. reads_ended bytes packets (stream_of bytes) (is_read bytes)
      (begun_is_read bytes (begins bytes packets true [] s)) s,
)

pub no_stream_law : (bytes : List ℕ) → (stream_of bytes ≡ NoStream) ↔ Not (BeginsStream bytes)
no_stream_law bytes = (λ e s. begun_is_read bytes s e, λ none. reads_none bytes (stream_of bytes) (is_read bytes) none)
