-- A stream that is read on by a piece: of a packet, of the end, or with a byte that fits none.
use Rattle.std.proofs.Common.{◌≡◌, ℕ, ◌+◌, ◌<◌, ◌==◌, true, false, List, [], ◌∷◌, ◌++◌, length, refl, sym, ap, ◌∙◌}
use Rattle.std.proofs.Common.{arith, zero-add, append_assoc, append-nil, length-append, ne_eqb, eqb-true, inl, inr}
use Rattle.std.specs.Prelude.{codes, ◌⊎◌, nat_lt}
use Rattle.std.proofs.lemmas.Bool.{and_parts, ltb-true, ltb-false}
use Rattle.std.proofs.lemmas.Slice.Eq.{bytes_eq-Decides}
use Rattle.std.specs.Str.{bytes_eq}
use Rattle.protocol.specs.Streams.{may_stand, may_continue, begins_end, piece_of, stream_from}
use Rattle.protocol.specs.Streams.Piece.{Beginning, NoPiece}
use Rattle.protocol.specs.Streams.StreamRead.{Going, NoStream}
use Rattle.protocol.proofs.FoundLemmas.{both}
use Rattle.protocol.proofs.PacketBytes.{contents_continue, may_continue-append}
use Rattle.protocol.proofs.StreamReading.{stream_from-append}
use Rattle.sl_packet.specs.Progress.{Progress, read_so_far, HasBadByte}
use Rattle.sl_packet.specs.Progress.Progress.{Amid}
use Rattle.sl_packet.specs.States.{is_begun, first_is_e}

-- ---- a piece of a packet
pub continued : (held piece : List ℕ) → may_continue 0 held ≡ true → may_continue (length held) piece ≡ true
    → may_continue 0 (held ++ piece) ≡ true
continued held piece may more = may_continue-append 0 held piece ∙ rw (may, zero-add (length held), more)

pub goes_on_in_packet : (packets : List (List ℕ)) (held piece : List ℕ) → may_continue 0 held ≡ true
    → may_continue (length held) piece ≡ true → length held + length piece < 520
    → stream_from (Going packets held) piece ≡ Going packets (held ++ piece)
goes_on_in_packet packets held [] may more short = ap (Going packets) (sym (append-nil held))
goes_on_in_packet packets held (b ∷ piece) may more short =
    let parts = and_parts (may_stand (length held) b) (may_continue (length held + 1) piece) more in
    let size : length (held ++ b ∷ []) ≡ length held + 1 = length-append held (b ∷ []) in
    let here : may_continue 0 (held ++ b ∷ []) ≡ true = continued held (b ∷ []) may (rw parts.0) in
    let next : may_continue (length (held ++ b ∷ [])) piece ≡ true = rw size parts.1 in
    let not_yet : (length (held ++ b ∷ []) == 520)
    ≡ false = ne_eqb (length (held ++ b ∷ [])) 520 (λ e. absurd (omega arith)) in
    rw (here, not_yet) (goes_on_in_packet packets (held ++ b ∷ []) piece here next (omega arith)
    ∙ ap (Going packets) (append_assoc held (b ∷ []) piece))

pub ends_packet : (packets : List (List ℕ)) (held piece : List ℕ) → 0 < length piece → may_continue 0 held ≡ true
    → may_continue (length held) piece ≡ true → length held + length piece ≡ 520
    → stream_from (Going packets held) piece ≡ Going (packets ++ (held ++ piece) ∷ []) []
ends_packet packets held [] some may more size = absurd (omega arith)
ends_packet packets held (b ∷ []) some may more size =
    let here : may_continue 0 (held ++ b ∷ []) ≡ true = continued held (b ∷ []) may more in
    let whole : length (held ++ b ∷ []) ≡ 520 = length-append held (b ∷ []) ∙ size in
    rw (here, whole)
ends_packet packets held (b ∷ c ∷ piece) some may more size =
    let parts = and_parts (may_stand (length held) b) (may_continue (length held + 1) (c ∷ piece)) more in
    let longer : length (held ++ b ∷ []) ≡ length held + 1 = length-append held (b ∷ []) in
    let here : may_continue 0 (held ++ b ∷ []) ≡ true = continued held (b ∷ []) may (rw parts.0) in
    let next : may_continue (length (held ++ b ∷ [])) (c ∷ piece) ≡ true = rw longer parts.1 in
    let not_yet : (length (held ++ b ∷ []) == 520)
    ≡ false = ne_eqb (length (held ++ b ∷ [])) 520 (λ e. absurd (omega arith)) in
    rw (here, not_yet) (ends_packet packets (held ++ b ∷ []) (c ∷ piece) (omega arith) here next (omega arith)
    ∙ ap (λ l. Going (packets ++ l ∷ []) []) (append_assoc held (b ∷ []) (c ∷ piece)))

-- ---- a byte that fits nothing

-- the byte is further on
pub later_bad : (held : List ℕ) (b : ℕ) (piece : List ℕ) → piece_of (held ++ b ∷ []) ≡ Beginning
    → HasBadByte (Amid (held ++ b ∷ [])) piece → HasBadByte (Amid held) (b ∷ piece)
later_bad held b piece begins h = record {
  good = b ∷ h.good;
  bad = h.bad;
  behind = h.behind;
  whole = ap (λ l. b ∷ l) h.whole;
  so_far = λ packets. rw begins (h.so_far packets ∙ ap (Going packets) (append_assoc held (b ∷ []) h.good));
  fault = λ packets. rw (← append_assoc held (b ∷ []) h.good) (h.fault packets);
}

-- the byte is the next
pub first_bad : (held : List ℕ) (b : ℕ) (piece : List ℕ) → piece_of (held ++ b ∷ []) ≡ NoPiece
    → HasBadByte (Amid held) (b ∷ piece)
first_bad held b piece none = record {
  good = [];
  bad = b;
  behind = piece;
  whole = refl;
  so_far = λ packets. ap (Going packets) (sym (append-nil held));
  fault = λ packets. rw (append-nil held, none);
}

pub no_stream_stays : (bytes : List ℕ) → stream_from NoStream bytes ≡ NoStream
no_stream_stays [] = refl
no_stream_stays (b ∷ bytes) = no_stream_stays bytes

-- Then no stream begins so.
pub no_stream_of_bad : (before : Progress) (piece : List ℕ) (packets : List (List ℕ)) → HasBadByte before piece
    → stream_from (read_so_far packets before) piece ≡ NoStream
no_stream_of_bad before piece packets h =
    ap (stream_from (read_so_far packets before)) (sym h.whole)
    ∙ stream_from-append (read_so_far packets before) h.good (h.bad ∷ h.behind)
    ∙ ap (λ r. stream_from r (h.bad ∷ h.behind)) (h.so_far packets)
    ∙ ap (λ r. stream_from r h.behind) (h.fault packets)
    ∙ no_stream_stays h.behind

-- what begins with no `E` and may not stand in a packet is nothing
no_packet : (bytes : List ℕ) → may_continue 0 bytes ≡ false → first_is_e bytes ≡ false → piece_of bytes ≡ NoPiece
no_packet [] may first = absurd cc
no_packet (b ∷ bytes) may first = rw (may, first)

first_stays : (held : List ℕ) (b : ℕ) (piece : List ℕ) → first_is_e (held ++ b ∷ piece) ≡ false
    → first_is_e (held ++ b ∷ []) ≡ false
first_stays [] b piece first = first
first_stays (h ∷ held) b piece first = first

-- Behind the header of a packet anything may stand.
place_in_header : (place : ℕ) (bytes : List ℕ) → may_continue place bytes ≡ false → place < 8
place_in_header place bytes bad =
    both (nat_lt place 8)
    (λ y. ltb-true place 8 y)
    (λ n. let may = contents_continue place bytes (ltb-false place 8 n) in absurd cc)

pub begun_packet : (bytes : List ℕ) → may_continue 0 bytes ≡ true → length bytes < 520 → piece_of bytes ≡ Beginning
begun_packet bytes may short =
    let not_yet : (length bytes == 520) ≡ false = ne_eqb (length bytes) 520 (λ e. absurd (omega arith)) in
    rw (may, not_yet)

pub bad_in_packet : (held piece : List ℕ) → may_continue 0 held ≡ true → first_is_e (held ++ piece) ≡ false
    → may_continue (length held) piece ≡ false → HasBadByte (Amid held) piece
bad_in_packet held [] may first more = absurd cc
bad_in_packet held (b ∷ piece) may first more =
    let size : length (held ++ b ∷ []) ≡ length held + 1 = length-append held (b ∷ []) in
    let parted : (held ++ b ∷ []) ++ piece ≡ held ++ b ∷ piece = append_assoc held (b ∷ []) piece in
    let early = place_in_header (length held) (b ∷ piece) more in
    both (may_stand (length held) b)
    (λ y.
    let here : may_continue 0 (held ++ b ∷ []) ≡ true = continued held (b ∷ []) may (rw y) in
    let next : may_continue (length (held ++ b ∷ [])) piece ≡ false = rw (size, ← more, y) in
    later_bad held b piece (begun_packet (held ++ b ∷ []) here (omega arith))
    (bad_in_packet (held ++ b ∷ []) piece here (ap first_is_e parted ∙ first) next))
    (λ n. first_bad held b piece
    (no_packet (held ++ b ∷ []) (may_continue-append 0 held (b ∷ []) ∙ rw (may, zero-add (length held), n))
    (first_stays held b piece first)))

-- ---- what is held, by the first byte
first_of_packet : (b : ℕ) (bytes : List ℕ) → may_continue 0 (b ∷ bytes) ≡ true → (b == 69) ≡ false
first_of_packet b bytes may =
    let parts = and_parts (b == 83) (may_continue 1 bytes) may in
    rw (eqb-true b 83 parts.0)

-- with no `E` at its head it begins a packet
pub is_in_packet : (held piece : List ℕ) → is_begun held ≡ true → first_is_e (held ++ piece) ≡ false
    → may_continue 0 held ≡ true
is_in_packet [] piece begun first = refl
is_in_packet (h ∷ held) piece begun first =
    both (may_continue 0 (h ∷ held)) (λ y. y) (λ n. let none = rw (n, first) at begun in absurd cc)

-- with an `E` it begins the end
pub is_in_end : (held piece : List ℕ) → is_begun held ≡ true → first_is_e (held ++ piece) ≡ true
    → (held ≡ []) ⊎ ((held ≡ codes "E") ⊎ (held ≡ codes "EN"))
is_in_end [] piece begun first = inl refl
is_in_end (h ∷ held) piece begun first =
    both (may_continue 0 (h ∷ held))
    (λ y. let not = first_of_packet h held y in absurd cc)
    (λ n. let ends : begins_end (h ∷ held) ≡ true = rw n at begun in
    both (bytes_eq (h ∷ held) (codes "E"))
    (λ y. inr (inl ((bytes_eq-Decides (h ∷ held) (codes "E")).0 y)))
    (λ m. inr (inr ((bytes_eq-Decides (h ∷ held) (codes "EN")).0 (rw m at ends)))))
