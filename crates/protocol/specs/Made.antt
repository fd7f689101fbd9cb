-- The record that fields spell: how a program makes one, and that it is read back as the fields.
-- SEED Reference Manual 2.4, chapter 8: the fixed section of data header, blockette 1000, one further blockette.
-- Left out: flags, the time correction, chains of more than two blockettes; the contents are bytes that are given.
use Rattle.std.specs.Prelude.{◌≡◌, ◌≤◌, ◌<◌, ◌≤ℤ◌, ◌<ℤ◌, ◌⊎◌, ⊤, All, ℕ, zero, suc, ◌+◌, ◌-◌, ◌/◌, ◌%◌, Bool, true}
use Rattle.std.specs.Prelude.{false, ◌&&◌, ◌||◌, nat_le, nat_lt, ◌==◌, if◌then◌else◌, List, [], ◌∷◌, ◌++◌, length}
use Rattle.std.specs.Prelude.{replicate, ℤ, pos, ◌+ℤ◌, neg_ℤ, int_le, int_lt, nat_abs, Option, Some, None, is_some}
use Rattle.std.specs.Prelude.{Result, Ok, Err}
use Rattle.std.specs.Ordering.{int_eq}
use Rattle.std.specs.List.{list_all, concat}
use Rattle.std.specs.Str.{bytes_eq}
use Rattle.protocol.specs.declared.record.ByteOrder.{ByteOrder}
use Rattle.protocol.specs.declared.record.Kind.{Kind}
use Rattle.protocol.specs.Record.{Facts, header_of, is_quality, kind_of_type}
use Rattle.protocol.specs.declared.record.RecordFault.{RecordFault}
use Rattle.protocol.specs.Time.{is_day, is_time_of_day, tick}
use Rattle.protocol.specs.declared.record.ByteOrder.TheVariants.{Big, Little}
use Rattle.protocol.specs.Record.{padded}
use Rattle.protocol.specs.Reading.{IsQuality, Gives, HasFacts}

-- The values of a record's fields. Codes are bytes without padding, the quality is a byte, and the numbers of the start
-- are those of the header.
pub record Fields : Type 0 where
  pub sequence : ℕ
  pub quality : ℕ
  pub station : List ℕ
  pub location : List ℕ
  pub channel : List ℕ
  pub network : List ℕ
  pub year : ℕ
  pub day : ℕ
  pub hour : ℕ
  pub minute : ℕ
  pub second : ℕ
  -- in units of 0.0001 s
  pub fraction : ℕ
  pub samples : ℕ
  pub factor : ℤ
  pub multiplier : ℤ
  pub encoding : ℕ
  pub order : ByteOrder
  -- the type of a blockette behind the blockette 1000
  pub extra : Option ℕ
  pub contents : List ℕ

-- ---- which fields are in range

-- `A` to `Z`, `0` to `9`
abbrev pub is_code_byte : ℕ → Bool
is_code_byte b = (nat_le 65 b && nat_le b 90) || (nat_le 48 b && nat_le b 57)

-- a code of so many bytes
abbrev pub is_code : (least most : ℕ) → List ℕ → Bool
is_code least most bs = nat_le least (length bs) && nat_le (length bs) most && list_all is_code_byte bs

-- a number of 16 bits with a sign
abbrev pub is_short : ℤ → Bool
is_short z = int_le (neg_ℤ (pos 32768)) z && int_lt z (pos 32768)

-- no further blockette, or one whose type gives a record without samples its type
abbrev pub is_extra : Option ℕ → Bool
is_extra None = true
is_extra (Some type) = is_some (kind_of_type type)

-- The codes are of letters and digits, and as long as they may be.
abbrev pub has_codes_in_range : Fields → Bool
has_codes_in_range f = is_code 1 5 f.station && is_code 0 2 f.location && is_code 1 3 f.channel && is_code 1 2 f.network

-- The start is a day and a time of a day.
abbrev pub has_start_in_range : Fields → Bool
has_start_in_range f =
    is_day f.year f.day && is_time_of_day f.hour f.minute f.second f.fraction

-- Each field is in its range; there are at most 448 bytes of contents.
abbrev pub is_in_range : Fields → Bool
is_in_range f =
    nat_lt f.sequence 1000000 && is_quality f.quality && has_codes_in_range f && has_start_in_range f &&
    nat_lt f.samples 65536 && is_short f.factor && is_short f.multiplier
    && nat_lt f.encoding 256 && is_extra f.extra && nat_le (length f.contents) 448
    && list_all (λ b. nat_lt b 256) f.contents

-- ---- the bytes of a record

-- the last n decimal digits of a number
abbrev pub decimal : ℕ → ℕ → List ℕ
decimal zero k = []
decimal (suc n) k = decimal n (k / 10) ++ (48 + k % 10) ∷ []

-- a number of 16 bits
abbrev pub two_bytes : ByteOrder → ℕ → List ℕ
two_bytes Big n = n / 256 ∷ n % 256 ∷ []
two_bytes Little n = n % 256 ∷ n / 256 ∷ []

-- a number of 16 bits with a sign, by two's complement
abbrev pub short_bytes : ByteOrder → ℤ → List ℕ
short_bytes o z = two_bytes o (if int_lt z (pos 0) then nat_abs (z +ℤ pos 65536) else nat_abs z)

-- the byte of the blockette 1000 that names the order
abbrev pub word_order_byte : ByteOrder → ℕ
word_order_byte Big = 1
word_order_byte Little = 0

-- n bytes 0
abbrev pub zeros : ℕ → List ℕ
zeros n = replicate n 0

-- where the blockette behind the blockette 1000 begins, 0 for none, and the eight bytes there
abbrev pub extra_offset : Option ℕ → ℕ
extra_offset None = 0
extra_offset (Some type) = 56

-- the eight bytes of the blockette behind the blockette 1000, or of none
abbrev pub extra_bytes : ByteOrder → Option ℕ → List ℕ
extra_bytes o None = zeros 8
extra_bytes o (Some type) = two_bytes o type ++ zeros 6

-- how many blockettes there are
abbrev pub blockette_count : Option ℕ → ℕ
blockette_count None = 1
blockette_count (Some type) = 2

-- from offset 20 on: the start, the other numbers of the header, and from 48 on the blockettes and the contents
abbrev pub numbers_of : ByteOrder → Fields → List ℕ
numbers_of o f =
    concat
    (two_bytes o f.year ∷ two_bytes o f.day ∷ (f.hour ∷ f.minute ∷ f.second ∷ 0 ∷ []) ∷ two_bytes o f.fraction
    ∷ two_bytes o f.samples ∷ short_bytes o f.factor ∷ short_bytes o f.multiplier
    ∷ zeros 3 ∷ (blockette_count f.extra ∷ []) ∷ zeros 4
    ∷ two_bytes o (if nat_lt 0 f.samples then 64 else 0) ∷ two_bytes o 48
    ∷ two_bytes o 1000 ∷ two_bytes o (extra_offset f.extra) ∷ (f.encoding ∷ word_order_byte o ∷ 9 ∷ 0 ∷ [])
    ∷ extra_bytes o f.extra
    ∷ f.contents ∷ zeros (448 - length f.contents) ∷ [])

-- the record of the fields: its sequence number, its quality and a space, its codes and its numbers
abbrev pub layout_of : Fields → List ℕ
layout_of f =
    concat
    (decimal 6 f.sequence ∷ (f.quality ∷ 32 ∷ []) ∷ padded 5 f.station ∷ padded 2 f.location ∷ padded 3 f.channel
    ∷ padded 2 f.network
    ∷ numbers_of f.order f ∷ [])

-- ---- the record that is read back as the fields

-- the ticks of the start
abbrev pub start_asked : Fields → ℤ
start_asked f = tick f.year f.day f.hour f.minute f.second f.fraction

-- The record says what the fields say. Its location and channel keep their spaces.
abbrev pub has_fields : Fields → Facts → Bool
has_fields f x =
    bytes_eq x.network f.network && bytes_eq x.station f.station && bytes_eq x.location (padded 2 f.location) &&
    bytes_eq x.channel (padded 3 f.channel)
    && int_eq x.start (start_asked f) && (x.samples == f.samples)

-- The record is read as the fields.
abbrev pub reads_back : Fields → Result Facts RecordFault → Bool
reads_back f (Err fault) = false
reads_back f (Ok x) = has_fields f x

-- The record of the fields; None where a field is out of range, or where the layout is not read as the fields (in
-- little order on the days 1, 256 and 257 of 2056, which fit in big order too).
abbrev pub made : Fields → Option (List ℕ)
made f = if is_in_range f && reads_back f (header_of (layout_of f)) then Some (layout_of f) else None

-- ---- the same in words

-- `A` to `Z`, `0` to `9`
abbrev pub IsCodeByte : ℕ → Type 0
IsCodeByte b = ((65 ≤ b) × (b ≤ 90)) ⊎ ((48 ≤ b) × (b ≤ 57))

-- a code of so many bytes
abbrev pub IsCode : (least most : ℕ) → List ℕ → Type 0
IsCode least most bs = (least ≤ length bs) × (length bs ≤ most) × All IsCodeByte bs

-- a number of 16 bits with a sign
abbrev pub IsShort : ℤ → Type 0
IsShort z = (neg_ℤ (pos 32768) ≤ℤ z) × (z <ℤ pos 32768)

-- a type that gives a record without samples its kind, or none
abbrev pub IsExtra : Option ℕ → Type 0
IsExtra None = ⊤
IsExtra (Some type) = (k : Kind) × Gives type k

-- Each field is in its range.
pub record IsInRange (f : Fields) : Type 0 where
  pub sequence : f.sequence < 1000000
  pub quality : IsQuality f.quality
  pub station : IsCode 1 5 f.station
  pub location : IsCode 0 2 f.location
  pub channel : IsCode 1 3 f.channel
  pub network : IsCode 1 2 f.network
  pub year : (1900 ≤ f.year) × (f.year ≤ 2100)
  pub day : (1 ≤ f.day) × (f.day ≤ 366)
  pub hour : f.hour ≤ 23
  pub minute : f.minute ≤ 59
  pub second : f.second ≤ 60
  pub fraction : f.fraction ≤ 9999
  pub samples : f.samples < 65536
  pub factor : IsShort f.factor
  pub multiplier : IsShort f.multiplier
  pub encoding : f.encoding < 256
  pub extra : IsExtra f.extra
  pub size : length f.contents ≤ 448
  pub contents : All (λ b. b < 256) f.contents

-- The three days whose bytes in little order are a date in big order too: the year is 08 08 in both orders.
abbrev pub IsAmbiguous : Fields → Type 0
IsAmbiguous f = (f.order ≡ Little) × (f.year ≡ 2056) × ((f.day ≡ 1) ⊎ (f.day ≡ 256) ⊎ (f.day ≡ 257))

-- the facts have the codes, the start and the samples of the fields
pub record HasFields (f : Fields) (x : Facts) : Type 0 where
  pub network : x.network ≡ f.network
  pub station : x.station ≡ f.station
  pub location : x.location ≡ padded 2 f.location
  pub channel : x.channel ≡ padded 3 f.channel
  pub start : x.start ≡ start_asked f
  pub samples : x.samples ≡ f.samples

-- the record that fields spell
pub record Spells (f : Fields) (r : List ℕ) : Type 0 where
  pub in_range : IsInRange f
  pub layout : layout_of f ≡ r
  pub facts : Facts
  pub has_facts : HasFacts r facts
  pub has_fields : HasFields f facts
