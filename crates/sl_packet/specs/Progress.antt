-- How far a stream of packets was read, without its packets: they were lent and are gone.
-- SeedLink 3, data packets and the end of a transfer. Left out: what the packets are.
use Rattle.std.specs.Prelude.{◌≡◌, ℕ, List, [], ◌∷◌, ◌++◌}
use Rattle.protocol.specs.Streams.{StreamRead, stream_byte, stream_from}
use Rattle.protocol.specs.Streams.StreamRead.{Going, Ended, NoStream}

-- how far it was read
pub data Progress : Type 0 where
  -- up to the bytes of an unfinished packet or of an unfinished end
  Amid : (rest : List ℕ) → Progress
  -- up to the end
  Finished : Progress
  -- No stream begins so.
  Faulty : Progress

-- how far it was read, with the packets that came before
abbrev pub read_so_far : List (List ℕ) → Progress → StreamRead
read_so_far packets (Amid rest) = Going packets rest
read_so_far packets Finished = Ended packets
read_so_far packets Faulty = NoStream

-- the bytes that were read since the last packet, where they are the beginning of a packet or of the end
abbrev pub rest_in : Progress → List ℕ
rest_in (Amid rest) = rest
rest_in Finished = []
rest_in Faulty = []

-- where more bytes lead that make nothing whole
abbrev pub gone_on : Progress → List ℕ → Progress
gone_on (Amid rest) piece = Amid (rest ++ piece)
gone_on Finished piece = Finished
gone_on Faulty piece = Faulty

-- A byte of the piece fits no stream, and the bytes before it make nothing whole.
pub record HasBadByte (before : Progress) (piece : List ℕ) : Type 0 where
  pub good : List ℕ
  pub bad : ℕ
  pub behind : List ℕ
  pub whole : good ++ bad ∷ behind ≡ piece
  pub so_far : (packets : List (List ℕ))
      → stream_from (read_so_far packets before) good ≡ read_so_far packets (gone_on before good)
  pub fault : (packets : List (List ℕ)) → stream_byte (read_so_far packets (gone_on before good)) bad ≡ NoStream
