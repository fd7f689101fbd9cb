-- The packets of a transfer and its end: what a reader makes of them, and of whatever bytes come in their place.
use Rattle.std.proofs.Common.{◌≡◌, ℕ, Bool, true, false, List, [], ◌∷◌, ◌++◌, refl, sym, ap, ◌∙◌, append_assoc}
use Rattle.std.proofs.Common.{append-nil, map, subst, inl, inr, true≢false}
use Rattle.std.proofs.lemmas.List.{map-append}
use Rattle.std.proofs.lemmas.List.Elements.{All-nil, All-push, All-head, All-tail}
use Rattle.std.specs.Prelude.{◌≢◌, All, codes}
use Rattle.std.specs.List.{concat}
use Rattle.protocol.specs.Packet.{IsSomePacket}
use Rattle.protocol.specs.Streams.{end_mark, IsUnfinished, Piece, piece_of, joined_piece, StreamRead, stream_byte}
use Rattle.protocol.specs.Streams.{stream_from, stream_of}
use Rattle.protocol.specs.Streams.Piece.{WholePacket, TheEnd, Beginning, NoPiece}
use Rattle.protocol.specs.Streams.StreamRead.{Going, Ended, NoStream}
use Rattle.protocol.proofs.FrameLemmas.{nothing_unfinished}
use Rattle.protocol.proofs.StreamReading.{going_law}
use Rattle.slreader.specs.declared.fault.ReaderFault.TheVariants.{NotAPacket}
use Rattle.slreader.specs.Dialogue.{ReaderValue, Stage, Given, after_byte, byte_at, given_by, given_at, given_from}
use Rattle.slreader.specs.Dialogue.{read_on, transferred, packet_given}
use Rattle.slreader.specs.Dialogue.Stage.{Transfer, Over, Failed}
use Rattle.slreader.specs.Dialogue.Given.{Packet, End}
use Rattle.slreader.specs.Parts.{Part, bytes_of, packet_part, end_parts}
use Rattle.slreader.proofs.ReadingLaws.{read_on-append}
use Rattle.slreader.proofs.PartLemmas.{Reads, ReadsAll}
use Rattle.slreader.proofs.TransferLemmas.{no_stream_stays}

-- ---- a stream so far

-- what a reader is sent next
abbrev pub stage_in : StreamRead → Stage
stage_in (Going packets rest) = Transfer rest
stage_in (Ended packets) = Over
stage_in NoStream = Failed NotAPacket

-- what it was given
abbrev gives : StreamRead → List Given
gives (Going packets rest) = map Packet packets
gives (Ended packets) = map Packet packets ++ End ∷ []
gives NoStream = []

joined_stage : (r : ReaderValue) (packets : List (List ℕ)) (bytes : List ℕ) (p : Piece)
    → (transferred r bytes p).stage ≡ stage_in (joined_piece packets bytes p)
joined_stage r packets bytes WholePacket = refl
joined_stage r packets bytes TheEnd = refl
joined_stage r packets bytes Beginning = refl
joined_stage r packets bytes NoPiece = refl

byte_stage : (r : ReaderValue) (s : StreamRead) (b : ℕ) → r.stage ≡ stage_in s
    → (after_byte r b).stage ≡ stage_in (stream_byte s b)
unfolding after_byte
byte_stage r (Going packets rest) b is =
    ap (λ x. (byte_at r x b).stage) is ∙ joined_stage r packets (rest ++ b ∷ []) (piece_of (rest ++ b ∷ []))
byte_stage r (Ended packets) b is = ap (λ x. (byte_at r x b).stage) is
byte_stage r NoStream b is = ap (λ x. (byte_at r x b).stage) is ∙ is

pub stream_stage : (r : ReaderValue) (s : StreamRead) (bytes : List ℕ) → r.stage ≡ stage_in s
    → (read_on r bytes).stage ≡ stage_in (stream_from s bytes)
stream_stage r s [] is = is
stream_stage r s (b ∷ bytes) is = stream_stage (after_byte r b) (stream_byte s b) bytes (byte_stage r s b is)

-- nothing is asked any more
transferred_asks : (r : ReaderValue) (bytes : List ℕ) (p : Piece) → (transferred r bytes p).asked ≡ r.asked
transferred_asks r bytes WholePacket = refl
transferred_asks r bytes TheEnd = refl
transferred_asks r bytes Beginning = refl
transferred_asks r bytes NoPiece = refl

byte_asks : (r : ReaderValue) (s : StreamRead) (b : ℕ) → r.stage ≡ stage_in s → (after_byte r b).asked ≡ r.asked
unfolding after_byte
byte_asks r (Going packets rest) b is =
    ap (λ x. (byte_at r x b).asked) is ∙ transferred_asks r (rest ++ b ∷ []) (piece_of (rest ++ b ∷ []))
byte_asks r (Ended packets) b is = ap (λ x. (byte_at r x b).asked) is
byte_asks r NoStream b is = ap (λ x. (byte_at r x b).asked) is

pub stream_asks : (r : ReaderValue) (s : StreamRead) (bytes : List ℕ) → r.stage ≡ stage_in s
    → (read_on r bytes).asked ≡ r.asked
stream_asks r s [] is = refl
stream_asks r s (b ∷ bytes) is =
    stream_asks (after_byte r b) (stream_byte s b) bytes (byte_stage r s b is) ∙ byte_asks r s b is

joined_gives : (packets : List (List ℕ)) (bytes : List ℕ) (p : Piece) → p ≢ NoPiece
    → map Packet packets ++ packet_given bytes p ≡ gives (joined_piece packets bytes p)
joined_gives packets bytes WholePacket some = sym (map-append Packet packets (bytes ∷ []))
joined_gives packets bytes TheEnd some = refl
joined_gives packets bytes Beginning some = append-nil (map Packet packets)
joined_gives packets bytes NoPiece some = absurd (some refl)

byte_gives : (r : ReaderValue) (s : StreamRead) (b : ℕ) → r.stage ≡ stage_in s → stream_byte s b ≢ NoStream
    → gives s ++ given_by r b ≡ gives (stream_byte s b)
unfolding given_by
byte_gives r (Going packets rest) b is some =
    ap (λ x. map Packet packets ++ given_at x b) is
    ∙ joined_gives packets (rest ++ b ∷ []) (piece_of (rest ++ b ∷ []))
    (λ e. some (ap (joined_piece packets (rest ++ b ∷ [])) e))
byte_gives r (Ended packets) b is some = absurd (some refl)
byte_gives r NoStream b is some = absurd (some refl)

stream_gives : (r : ReaderValue) (s : StreamRead) (bytes : List ℕ) → r.stage ≡ stage_in s
    → stream_from s bytes ≢ NoStream → gives s ++ given_from r bytes ≡ gives (stream_from s bytes)
stream_gives r s [] is some = append-nil (gives s)
stream_gives r s (b ∷ bytes) is some =
    sym (append_assoc (gives s) (given_by r b) (given_from (after_byte r b) bytes))
    ∙ ap (λ l. l ++ given_from (after_byte r b) bytes)
    (byte_gives r s b is (λ e. some (ap (λ x. stream_from x bytes) e ∙ no_stream_stays bytes)))
    ∙ stream_gives (after_byte r b) (stream_byte s b) bytes (byte_stage r s b is) some

-- bytes from the beginning of a packet on that are read as such a stream
of_stream : (r : ReaderValue) (bytes : List ℕ) (s : StreamRead) → r.stage ≡ Transfer [] → stream_of bytes ≡ s
    → s ≢ NoStream → given_from r bytes ≡ gives s
of_stream r bytes s is e some =
    stream_gives r (Going [] []) bytes is (λ none. some (sym e ∙ none)) ∙ ap gives e

-- ---- a packet, and the end

-- what is the beginning of a packet or of the end gives nothing
unfinished_silent : (r : ReaderValue) (front : List ℕ) → r.stage ≡ Transfer [] → IsUnfinished front
    → given_from r front ≡ []
unfinished_silent r front is unfinished =
    of_stream r front (Going [] front) is
    ((going_law front [] front).1
    (record {
      each = All-nil IsSomePacket;
      whole = refl;
      nothing_more = λ e. absurd (true≢false (sym e));
      unfinished = λ e. unfinished;
    })) (λ e. absurd cc)

packet_read : (packet : List ℕ) → IsSomePacket packet → stream_of packet ≡ Going (packet ∷ []) []
packet_read packet is =
    (going_law packet (packet ∷ []) []).1
    (record {
      each = All-push IsSomePacket [] packet (All-nil IsSomePacket) is;
      whole = append-nil (packet ++ []) ∙ append-nil packet;
      nothing_more = λ e. refl;
      unfinished = λ e. nothing_unfinished;
    })

packet_reads : (r : ReaderValue) (packet : List ℕ) → r.stage ≡ Transfer [] → IsSomePacket packet
    → Reads r (packet_part packet)
packet_reads r packet is some = record {
  given = of_stream r packet (Going (packet ∷ []) []) is (packet_read packet some) (λ e. absurd cc);
  silent = λ front more e not_nil. unfinished_silent r front is (more, not_nil, inl (subst IsSomePacket e some));
}

packet_stage : (r : ReaderValue) (packet : List ℕ) → r.stage ≡ Transfer [] → IsSomePacket packet
    → (read_on r packet).stage ≡ Transfer []
packet_stage r packet is some =
    stream_stage r (Going [] []) packet is ∙ ap stage_in (packet_read packet some)

end_reads : (r : ReaderValue) → r.stage ≡ Transfer [] → Reads r (record { bytes = codes "END"; given = End ∷ [] })
end_reads r is = record {
  given = of_stream r (codes "END") (Ended []) is refl (λ e. absurd cc);
  silent = λ front more e not_nil. unfinished_silent r front is (more, not_nil, inr (sym e));
}

-- The reader reads on, or the transfer is over.
abbrev pub IsTransfer : Stage → Type 0
IsTransfer stage = (s : StreamRead) × (stage ≡ stage_in s) × (s ≢ NoStream)

-- packets, and possibly the end
pub record Transfers (r : ReaderValue) (parts : List Part) : Type 0 where
  pub all : ReadsAll r parts
  pub ends : IsTransfer (read_on r (bytes_of parts)).stage

end_leads : (r : ReaderValue) (is_ended : Bool) → r.stage ≡ Transfer [] → Transfers r (end_parts is_ended)
end_leads r true is = record {
  all = (end_reads r is, tt);
  ends = (Ended [], stream_stage r (Going [] []) (codes "END") is, λ e. absurd cc);
}
end_leads r false is = record { all = tt; ends = (Going [] [], is, λ e. absurd cc) }

pub transfer_leads : (r : ReaderValue) (packets : List (List ℕ)) (is_ended : Bool) → r.stage ≡ Transfer []
    → All IsSomePacket packets → Transfers r (map packet_part packets ++ end_parts is_ended)
transfer_leads r [] is_ended is each = end_leads r is_ended is
transfer_leads r (packet ∷ packets) is_ended is each =
    let first = All-head IsSomePacket packet packets each in
    let inner = transfer_leads (read_on r packet) packets is_ended (packet_stage r packet is first)
    (All-tail IsSomePacket packet packets each) in
    record {
      all = (packet_reads r packet is first, inner.all);
      ends = subst (λ s. IsTransfer s.stage)
          (sym (read_on-append r packet (bytes_of (map packet_part packets ++ end_parts is_ended)))) inner.ends;
    }

-- ---- their bytes

pub transfer_bytes : (packets : List (List ℕ)) (is_ended : Bool)
    → bytes_of (map packet_part packets ++ end_parts is_ended) ≡ concat packets ++ end_mark is_ended
transfer_bytes [] true = refl
transfer_bytes [] false = refl
transfer_bytes (packet ∷ packets) is_ended =
    ap (λ l. packet ++ l) (transfer_bytes packets is_ended)
    ∙ sym (append_assoc packet (concat packets) (end_mark is_ended))
