-- The parts of a record that is made, in their order.
use Rattle.std.specs.Prelude.{ℕ, nat_lt, if◌then◌else◌, List, [], ◌∷◌, ◌++◌}
use Rattle.protocol.specs.Record.{padded}
use Rattle.protocol.specs.Made.{Fields, decimal, two_bytes, short_bytes, zeros, blockette_count, extra_offset}
use Rattle.protocol.specs.Made.{extra_bytes, word_order_byte}

-- the first 20 bytes: the sequence number, the quality and the codes
abbrev pub codes_part : Fields → List ℕ
codes_part f = decimal 6 f.sequence
    ++ ((f.quality ∷ 32 ∷ [])
    ++ (padded 5 f.station ++ (padded 2 f.location ++ (padded 3 f.channel ++ padded 2 f.network))))

-- the ten bytes of the start
abbrev pub start_part : Fields → List ℕ
start_part f = two_bytes f.order f.year
    ++ (two_bytes f.order f.day ++ ((f.hour ∷ f.minute ∷ f.second ∷ 0 ∷ []) ++ two_bytes f.order f.fraction))

-- the six bytes of the samples and their rate
abbrev pub rate_part : Fields → List ℕ
rate_part f = two_bytes f.order f.samples ++ (short_bytes f.order f.factor ++ short_bytes f.order f.multiplier)

-- where samples begin, 0 for none
abbrev pub samples_offset : ℕ → ℕ
samples_offset samples = if nat_lt 0 samples then 64 else 0

-- the twelve bytes to the header's end
abbrev pub places_part : Fields → List ℕ
places_part f =
    zeros 3
    ++ ((blockette_count f.extra ∷ [])
    ++ (zeros 4 ++ (two_bytes f.order (samples_offset f.samples) ++ two_bytes f.order 48)))

-- the sixteen bytes of the blockettes
abbrev pub blockettes_part : Fields → List ℕ
blockettes_part f = two_bytes f.order 1000
    ++ (two_bytes f.order (extra_offset f.extra)
    ++ ((f.encoding ∷ word_order_byte f.order ∷ 9 ∷ 0 ∷ []) ++ extra_bytes f.order f.extra))
