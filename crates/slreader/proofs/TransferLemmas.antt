-- Packets that are read by a cutter: the reader byte by byte comes to the same.
use Rattle.std.proofs.Common.{◌≡◌, ℕ, ◌+◌, List, [], ◌∷◌, ◌++◌, length, Some, None, refl, sym, ap, ◌∙◌, arith}
use Rattle.std.proofs.Common.{length-append}
use Rattle.protocol.specs.Streams.{Piece, piece_of, joined_piece, StreamRead, stream_byte, stream_from}
use Rattle.protocol.specs.Streams.Piece.{WholePacket, TheEnd, Beginning, NoPiece}
use Rattle.protocol.specs.Streams.StreamRead.{Going, Ended, NoStream}
use Rattle.slreader.specs.declared.fault.ReaderFault.{ReaderFault}
use Rattle.slreader.specs.declared.fault.ReaderFault.TheVariants.{NotAPacket}
use Rattle.slreader.specs.Tallies.{counted}
use Rattle.slreader.specs.Dialogue.{ReaderValue, FirstGiven, at_stage, behind, goes_on, read_first, after_byte}
use Rattle.slreader.specs.Dialogue.{given_by, transferred, packet_given}
use Rattle.slreader.specs.Dialogue.Stage.{Transfer, Over, Failed}
use Rattle.slreader.specs.Dialogue.Given.{Packet, End}
use Rattle.slreader.proofs.TalkLemmas.{behind_more, behind_none}

-- ---- what never comes back

pub no_stream_stays : (bytes : List ℕ) → stream_from NoStream bytes ≡ NoStream
no_stream_stays [] = refl
no_stream_stays (b ∷ bytes) = no_stream_stays bytes

-- The stream is over.
abbrev IsOver : StreamRead → Type 0
IsOver (Going ps rest) = ⊥
IsOver (Ended ps) = Unit {0}
IsOver NoStream = Unit {0}

over_stays : (s : StreamRead) (bytes : List ℕ) → IsOver s → IsOver (stream_from s bytes)
over_stays s [] over = over
over_stays (Going ps rest) (b ∷ bytes) over = absurd over
over_stays (Ended ps) (b ∷ bytes) over = over_stays NoStream bytes tt
over_stays NoStream (b ∷ bytes) over = over_stays NoStream bytes tt

-- It has a packet, or there is no stream.
abbrev HasPacket : StreamRead → Type 0
HasPacket (Going [] rest) = ⊥
HasPacket (Going (p ∷ ps) rest) = Unit {0}
HasPacket (Ended []) = ⊥
HasPacket (Ended (p ∷ ps)) = Unit {0}
HasPacket NoStream = Unit {0}

packet_joined : (p : List ℕ) (ps : List (List ℕ)) (bytes : List ℕ) (q : Piece)
    → HasPacket (joined_piece (p ∷ ps) bytes q)
packet_joined p ps bytes WholePacket = tt
packet_joined p ps bytes TheEnd = tt
packet_joined p ps bytes Beginning = tt
packet_joined p ps bytes NoPiece = tt

packet_stays : (s : StreamRead) (bytes : List ℕ) → HasPacket s → HasPacket (stream_from s bytes)
packet_stays s [] has = has
packet_stays (Going [] rest) (b ∷ bytes) has = absurd has
packet_stays (Going (p ∷ ps) rest) (b ∷ bytes) has =
    packet_stays (stream_byte (Going (p ∷ ps) rest) b) bytes
    (packet_joined p ps (rest ++ b ∷ []) (piece_of (rest ++ b ∷ [])))
packet_stays (Ended ps) (b ∷ bytes) has = packet_stays NoStream bytes tt
packet_stays NoStream (b ∷ bytes) has = packet_stays NoStream bytes tt

-- More came than one packet alone.
abbrev IsPastOne : StreamRead → Type 0
IsPastOne (Going [] rest) = ⊥
IsPastOne (Going (p ∷ []) []) = ⊥
IsPastOne (Going (p ∷ []) (b ∷ rest)) = Unit {0}
IsPastOne (Going (p ∷ q ∷ ps) rest) = Unit {0}
IsPastOne (Ended ps) = Unit {0}
IsPastOne NoStream = Unit {0}

past_joined : (p : List ℕ) (ps : List (List ℕ)) (b : ℕ) (bytes : List ℕ) (q : Piece)
    → IsPastOne (joined_piece (p ∷ ps) (b ∷ bytes) q)
past_joined p [] b bytes WholePacket = tt
past_joined p [] b bytes TheEnd = tt
past_joined p [] b bytes Beginning = tt
past_joined p [] b bytes NoPiece = tt
past_joined p (q ∷ ps) b bytes WholePacket = tt
past_joined p (q ∷ ps) b bytes TheEnd = tt
past_joined p (q ∷ ps) b bytes Beginning = tt
past_joined p (q ∷ ps) b bytes NoPiece = tt

past_byte : (p : List ℕ) (ps : List (List ℕ)) (rest : List ℕ) (b : ℕ) → IsPastOne (stream_byte (Going (p ∷ ps) rest) b)
past_byte p ps [] b = past_joined p ps b [] (piece_of (b ∷ []))
past_byte p ps (c ∷ rest) b = past_joined p ps c (rest ++ b ∷ []) (piece_of (c ∷ (rest ++ b ∷ [])))

past_stays : (s : StreamRead) (bytes : List ℕ) → IsPastOne s → IsPastOne (stream_from s bytes)
past_stays s [] past = past
past_stays (Going [] rest) (b ∷ bytes) past = absurd past
past_stays (Going (p ∷ ps) rest) (b ∷ bytes) past =
    past_stays (stream_byte (Going (p ∷ ps) rest) b) bytes (past_byte p ps rest b)
past_stays (Ended ps) (b ∷ bytes) past = past_stays NoStream bytes tt
past_stays NoStream (b ∷ bytes) past = past_stays NoStream bytes tt

-- ---- one byte

-- one byte of a packet or of the end, by what the bytes are then
at_byte : (r : ReaderValue) (rest : List ℕ) (b : ℕ) (more : List ℕ) (q : Piece) → piece_of (rest ++ b ∷ []) ≡ q →
    read_first (at_stage r (Transfer rest)) (b ∷ more)
    ≡ goes_on (packet_given (rest ++ b ∷ []) q) (transferred (at_stage r (Transfer rest)) (rest ++ b ∷ []) q)
    (read_first (transferred (at_stage r (Transfer rest)) (rest ++ b ∷ []) q) more)
unfolding after_byte given_by
at_byte r rest b more q is =
    ap (λ p. goes_on (packet_given (rest ++ b ∷ []) p) (transferred (at_stage r (Transfer rest)) (rest ++ b ∷ []) p)
    (read_first (transferred (at_stage r (Transfer rest)) (rest ++ b ∷ []) p) more)) is

-- a reader that failed
pub failed_reads : (r : ReaderValue) (fault : ReaderFault) (bytes : List ℕ)
    → read_first (at_stage r (Failed fault)) bytes
    ≡ record { used = length bytes; given = None; reader = at_stage r (Failed fault) }
unfolding after_byte given_by
failed_reads r fault [] = refl
failed_reads r fault (b ∷ bytes) = ap (behind 1) (failed_reads r fault bytes)
    ∙ ap (λ n. record { used = n; given = None; reader = at_stage r (Failed fault) }) (omega arith)

-- a byte behind the end
over_byte : (r : ReaderValue) (b : ℕ) (more : List ℕ)
    → read_first (at_stage r Over) (b ∷ more) ≡ behind 1 (read_first (at_stage r (Failed NotAPacket)) more)
unfolding after_byte given_by
over_byte r b more = refl

-- ---- bytes that make nothing whole

good_step : (r : ReaderValue) (rest : List ℕ) (b : ℕ) (bytes more rest' : List ℕ) (q : Piece)
    → piece_of (rest ++ b ∷ []) ≡ q → stream_from (joined_piece [] (rest ++ b ∷ []) q) bytes ≡ Going [] rest' →
    (stream_from (Going [] (rest ++ b ∷ [])) bytes ≡ Going [] rest'
    → read_first (at_stage r (Transfer (rest ++ b ∷ []))) (bytes ++ more)
    ≡ behind (length bytes) (read_first (at_stage r (Transfer rest')) more)) →
    read_first (at_stage r (Transfer rest)) (b ∷ (bytes ++ more))
    ≡ behind (1 + length bytes) (read_first (at_stage r (Transfer rest')) more)
good_step r rest b bytes more rest' WholePacket is s more_is =
    let h : HasPacket (stream_from (Going ((rest ++ b ∷ []) ∷ []) []) bytes) = packet_stays
    (Going ((rest ++ b ∷ []) ∷ []) []) bytes tt in
    absurd (rw s at h)
good_step r rest b bytes more rest' TheEnd is s more_is =
    let h : IsOver (stream_from (Ended []) bytes) = over_stays (Ended []) bytes tt in
    absurd (rw s at h)
good_step r rest b bytes more rest' Beginning is s more_is =
    at_byte r rest b (bytes ++ more) Beginning is ∙ ap (behind 1) (more_is s)
    ∙ behind_more 1 (length bytes) (read_first (at_stage r (Transfer rest')) more)
good_step r rest b bytes more rest' NoPiece is s more_is =
    let h : IsOver (stream_from NoStream bytes) = over_stays NoStream bytes tt in
    absurd (rw s at h)

pub good_bytes : (r : ReaderValue) (rest bytes more rest' : List ℕ) → stream_from (Going [] rest) bytes ≡ Going [] rest'
    → read_first (at_stage r (Transfer rest)) (bytes ++ more)
    ≡ behind (length bytes) (read_first (at_stage r (Transfer rest')) more)
good_bytes r rest [] more rest' s =
    let same : rest ≡ rest' = cc in
    ap (λ x. read_first (at_stage r (Transfer x)) more) same
    ∙ sym (behind_none (read_first (at_stage r (Transfer rest')) more))
good_bytes r rest (b ∷ bytes) more rest' s =
    good_step r rest b bytes more rest' (piece_of (rest ++ b ∷ [])) refl s
    (good_bytes r (rest ++ b ∷ []) bytes more rest')
    ∙ ap (λ n. behind n (read_first (at_stage r (Transfer rest')) more)) (omega arith)

-- ---- bytes that make one packet whole, at their end

-- a reader that was given a packet
abbrev pub given_packet : ReaderValue → List ℕ → ReaderValue
given_packet r packet = record r { stage = Transfer []; tally = counted r.tally packet }

-- the answer with so many bytes read
abbrev gave_packet : ReaderValue → ℕ → List ℕ → FirstGiven
gave_packet r n packet = record { used = n; given = Some (Packet packet); reader = given_packet r packet }

one_packet : (p q : List ℕ) (bytes : List ℕ) → stream_from (Going (p ∷ []) []) bytes ≡ Going (q ∷ []) []
    → (bytes ≡ []) × (p ≡ q)
one_packet p q [] s = (refl, cc)
one_packet p q (b ∷ bytes) s =
    let h : IsPastOne (stream_from (stream_byte (Going (p ∷ []) []) b) bytes) = past_stays
    (stream_byte (Going (p ∷ []) []) b) bytes (past_byte p [] [] b) in
    absurd (rw s at h)

packet_step : (r : ReaderValue) (rest : List ℕ) (b : ℕ) (bytes more packet : List ℕ) (q : Piece)
    → piece_of (rest ++ b ∷ []) ≡ q → stream_from (joined_piece [] (rest ++ b ∷ []) q) bytes ≡ Going (packet ∷ []) [] →
    (stream_from (Going [] (rest ++ b ∷ [])) bytes ≡ Going (packet ∷ []) []
    → read_first (at_stage r (Transfer (rest ++ b ∷ []))) (bytes ++ more) ≡ gave_packet r (length bytes) packet) →
    read_first (at_stage r (Transfer rest)) (b ∷ (bytes ++ more)) ≡ gave_packet r (1 + length bytes) packet
packet_step r rest b bytes more packet WholePacket is s more_is =
    let one = one_packet (rest ++ b ∷ []) packet bytes s in
    at_byte r rest b (bytes ++ more) WholePacket is ∙ ap (λ x. gave_packet r 1 x) one.1
    ∙ ap (λ x. gave_packet r (1 + length x) packet) (sym one.0)
packet_step r rest b bytes more packet TheEnd is s more_is =
    let h : IsOver (stream_from (Ended []) bytes) = over_stays (Ended []) bytes tt in
    absurd (rw s at h)
packet_step r rest b bytes more packet Beginning is s more_is =
    at_byte r rest b (bytes ++ more) Beginning is ∙ ap (behind 1) (more_is s)
packet_step r rest b bytes more packet NoPiece is s more_is =
    let h : IsOver (stream_from NoStream bytes) = over_stays NoStream bytes tt in
    absurd (rw s at h)

pub packet_bytes : (r : ReaderValue) (rest bytes more packet : List ℕ)
    → stream_from (Going [] rest) bytes ≡ Going (packet ∷ []) []
    → read_first (at_stage r (Transfer rest)) (bytes ++ more) ≡ gave_packet r (length bytes) packet
packet_bytes r rest [] more packet s = absurd cc
packet_bytes r rest (b ∷ bytes) more packet s =
    packet_step r rest b bytes more packet (piece_of (rest ++ b ∷ [])) refl s
    (packet_bytes r (rest ++ b ∷ []) bytes more packet) ∙ ap (λ n. gave_packet r n packet) (omega arith)

-- ---- bytes that make the end whole

abbrev gave_end : ReaderValue → ℕ → FirstGiven
gave_end r n = record { used = n; given = Some End; reader = at_stage r Over }

pub only_end : (bytes : List ℕ) → stream_from (Ended []) bytes ≡ Ended [] → bytes ≡ []
only_end [] s = refl
only_end (b ∷ bytes) s = let none = no_stream_stays bytes in absurd cc

end_step : (r : ReaderValue) (rest : List ℕ) (b : ℕ) (bytes more : List ℕ) (q : Piece) → piece_of (rest ++ b ∷ []) ≡ q
    → stream_from (joined_piece [] (rest ++ b ∷ []) q) bytes ≡ Ended [] →
    (stream_from (Going [] (rest ++ b ∷ [])) bytes ≡ Ended []
    → read_first (at_stage r (Transfer (rest ++ b ∷ []))) (bytes ++ more) ≡ gave_end r (length bytes)) →
    read_first (at_stage r (Transfer rest)) (b ∷ (bytes ++ more)) ≡ gave_end r (1 + length bytes)
end_step r rest b bytes more WholePacket is s more_is =
    let h : HasPacket (stream_from (Going ((rest ++ b ∷ []) ∷ []) []) bytes) = packet_stays
    (Going ((rest ++ b ∷ []) ∷ []) []) bytes tt in
    absurd (rw s at h)
end_step r rest b bytes more TheEnd is s more_is =
    at_byte r rest b (bytes ++ more) TheEnd is ∙ ap (λ x. gave_end r (1 + length x)) (sym (only_end bytes s))
end_step r rest b bytes more Beginning is s more_is =
    at_byte r rest b (bytes ++ more) Beginning is ∙ ap (behind 1) (more_is s)
end_step r rest b bytes more NoPiece is s more_is = let none = no_stream_stays bytes in absurd cc

pub end_bytes : (r : ReaderValue) (rest bytes more : List ℕ) → stream_from (Going [] rest) bytes ≡ Ended []
    → read_first (at_stage r (Transfer rest)) (bytes ++ more) ≡ gave_end r (length bytes)
end_bytes r rest [] more s = absurd cc
end_bytes r rest (b ∷ bytes) more s =
    end_step r rest b bytes more (piece_of (rest ++ b ∷ [])) refl s (end_bytes r (rest ++ b ∷ []) bytes more)
    ∙ ap (gave_end r) (omega arith)

-- ---- a byte that fits nothing

no_piece : (bytes : List ℕ) (q : Piece) → joined_piece [] bytes q ≡ NoStream → q ≡ NoPiece
no_piece bytes WholePacket s = absurd cc
no_piece bytes TheEnd s = absurd cc
no_piece bytes Beginning s = absurd cc
no_piece bytes NoPiece s = refl

pub bad_byte : (r : ReaderValue) (rest : List ℕ) (b : ℕ) (more : List ℕ) → stream_byte (Going [] rest) b ≡ NoStream
    → read_first (at_stage r (Transfer rest)) (b ∷ more)
    ≡ record { used = 1 + length more; given = None; reader = at_stage r (Failed NotAPacket) }
bad_byte r rest b more s =
    at_byte r rest b more NoPiece (no_piece (rest ++ b ∷ []) (piece_of (rest ++ b ∷ [])) s)
    ∙ ap (behind 1) (failed_reads r NotAPacket more)

pub bad_bytes : (r : ReaderValue) (rest good rest' : List ℕ) (b : ℕ) (more : List ℕ)
    → stream_from (Going [] rest) good ≡ Going [] rest' → stream_byte (Going [] rest') b ≡ NoStream
    → read_first (at_stage r (Transfer rest)) (good ++ b ∷ more)
    ≡ record { used = length (good ++ b ∷ more); given = None; reader = at_stage r (Failed NotAPacket) }
bad_bytes r rest good rest' b more s bad =
    good_bytes r rest good (b ∷ more) rest' s
    ∙ ap (behind (length good)) (bad_byte r rest' b more bad)
    ∙ ap (λ n. record { used = n; given = None; reader = at_stage r (Failed NotAPacket) })
    (let size = length-append good (b ∷ more) in omega arith)

pub bad_over : (r : ReaderValue) (good : List ℕ) (b : ℕ) (more : List ℕ) → stream_from (Ended []) good ≡ Ended []
    → read_first (at_stage r Over) (good ++ b ∷ more)
    ≡ record { used = length (good ++ b ∷ more); given = None; reader = at_stage r (Failed NotAPacket) }
bad_over r [] b more s = over_byte r b more ∙ ap (behind 1) (failed_reads r NotAPacket more)
    ∙ ap (λ n. record { used = n; given = None; reader = at_stage r (Failed NotAPacket) }) (omega arith)
bad_over r (c ∷ good) b more s = let none = no_stream_stays good in absurd cc
