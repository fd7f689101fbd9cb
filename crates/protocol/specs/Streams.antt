-- What stands on the wire: packets to a client with the end of a transfer, and records from a feeder. SeedLink 3, data
-- packets and the end of a transfer; the feed is this project's own. Left out: how bytes come in pieces.
use Rattle.std.specs.Prelude.{◌≡◌, ◌≢◌, ◌⊎◌, ℕ, ◌+◌, ◌<◌, Bool, true, false, ◌&&◌, ◌||◌, nat_lt, ◌==◌, if◌then◌else◌}
use Rattle.std.specs.Prelude.{List, [], ◌∷◌, ◌++◌, length, is_some, codes, All}
use Rattle.std.specs.List.{concat}
use Rattle.std.specs.Str.{bytes_eq}
use Rattle.protocol.specs.Packet.{hex_digit, IsSomePacket}

-- ---- a stream of packets, in words

-- the bytes of an end, where there is one
abbrev pub end_mark : Bool → List ℕ
end_mark true = codes "END"
end_mark false = []

-- More has to come before a packet or the end is whole.
abbrev pub IsUnfinished : List ℕ → Type 0
IsUnfinished rest = (more : List ℕ) × (more ≢ []) × (IsSomePacket (rest ++ more) ⊎ (rest ++ more ≡ codes "END"))

-- Packets, then possibly the end and nothing more. What is left over is the beginning of a packet or of the end.
pub record IsPacketStream (bytes : List ℕ) (packets : List (List ℕ)) (ended : Bool) (rest : List ℕ) : Type 0 where
  pub each : All IsSomePacket packets
  pub whole : concat packets ++ (end_mark ended ++ rest) ≡ bytes
  pub nothing_more : ended ≡ true → rest ≡ []
  pub unfinished : ended ≡ false → IsUnfinished rest

-- Some stream begins with the bytes.
abbrev pub BeginsStream : List ℕ → Type 0
BeginsStream bytes = (more : List ℕ) × (packets : List (List ℕ)) × (ended : Bool) ×
    IsPacketStream (bytes ++ more) packets ended []

-- ---- the same stream, read byte by byte

-- what may stand at a place of a packet: `S` (83), `L` (76), six digits, and then anything
abbrev pub may_stand : (place byte : ℕ) → Bool
may_stand place byte =
    if place == 0 then byte == 83
    else if place == 1 then byte == 76
    else if nat_lt place 8 then is_some (hex_digit byte)
    else true

-- The bytes may stand in a packet from the place on.
abbrev pub may_continue : (place : ℕ) → List ℕ → Bool
may_continue place [] = true
may_continue place (b ∷ bs) = may_stand place b && may_continue (place + 1) bs

-- what the bytes since the last whole packet are
pub data Piece : Type 0 where
  WholePacket : Piece
  TheEnd : Piece
  -- a beginning of a packet or of the end
  Beginning : Piece
  NoPiece : Piece

-- `E` or `EN`
abbrev pub begins_end : List ℕ → Bool
begins_end bytes = bytes_eq bytes (codes "E") || bytes_eq bytes (codes "EN")

abbrev pub piece_of : List ℕ → Piece
piece_of bytes =
    if may_continue 0 bytes then (if length bytes == 520 then WholePacket else Beginning)
    else if bytes_eq bytes (codes "END") then TheEnd
    else if begins_end bytes then Beginning
    else NoPiece

-- how far a stream is read
pub data StreamRead : Type 0 where
  -- whole packets, and what is left over
  Going : (packets : List (List ℕ)) → (rest : List ℕ) → StreamRead
  -- whole packets, and the end
  Ended : (packets : List (List ℕ)) → StreamRead
  -- No stream begins so.
  NoStream : StreamRead

-- the stream so far with that piece
abbrev pub joined_piece : List (List ℕ) → List ℕ → Piece → StreamRead
joined_piece packets bytes WholePacket = Going (packets ++ bytes ∷ []) []
joined_piece packets bytes TheEnd = Ended packets
joined_piece packets bytes Beginning = Going packets bytes
joined_piece packets bytes NoPiece = NoStream

-- one more byte; none may follow the end
abbrev pub stream_byte : StreamRead → ℕ → StreamRead
stream_byte (Going packets rest) b = joined_piece packets (rest ++ b ∷ []) (piece_of (rest ++ b ∷ []))
stream_byte (Ended packets) b = NoStream
stream_byte NoStream b = NoStream

-- how far it is read after more bytes
abbrev pub stream_from : StreamRead → List ℕ → StreamRead
stream_from r [] = r
stream_from r (b ∷ bytes) = stream_from (stream_byte r b) bytes

-- how far bytes are read as a stream
abbrev pub stream_of : List ℕ → StreamRead
stream_of bytes = stream_from (Going [] []) bytes

-- ---- a feed of records, in words and read byte by byte

-- pieces of 512 bytes, and what is left over
pub record IsFeed (bytes : List ℕ) (records : List (List ℕ)) (rest : List ℕ) : Type 0 where
  pub each : All (λ r. length r ≡ 512) records
  pub whole : concat records ++ rest ≡ bytes
  pub short : length rest < 512

-- how far a feed is read: whole records, and what is left over
pub record FeedRead : Type 0 where
  pub records : List (List ℕ)
  pub rest : List ℕ

-- one more byte, which may make a record whole
abbrev pub feed_byte : FeedRead → ℕ → FeedRead
feed_byte f b =
    if length f.rest == 511 then record { records = f.records ++ (f.rest ++ b ∷ []) ∷ []; rest = [] }
    else record f { rest = f.rest ++ b ∷ [] }

-- how far it is read after more bytes
abbrev pub feed_from : FeedRead → List ℕ → FeedRead
feed_from f [] = f
feed_from f (b ∷ bytes) = feed_from (feed_byte f b) bytes

-- how far bytes are read as a feed
abbrev pub feed_of : List ℕ → FeedRead
feed_of bytes = feed_from (record { records = []; rest = [] }) bytes
