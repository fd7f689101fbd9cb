-- Records as vectors: the first one, changes of it, and what each is read as.
use Rattle.std.specs.Prelude.{◌≡◌, refl, ℕ, ◌+◌, suc, zero, List, [], ◌∷◌, ◌++◌, length, take, drop, codes, replicate}
use Rattle.std.specs.Prelude.{pos, Some, None, Result, Ok, Err, filter, is_none}
use Rattle.protocol.specs.declared.record.Kind.{Kind}
use Rattle.protocol.specs.Record.{Facts, header_of}
use Rattle.protocol.specs.declared.record.RecordFault.{RecordFault}
use Rattle.protocol.specs.declared.record.ByteOrder.{ByteOrder}
use Rattle.protocol.specs.declared.record.Kind.TheVariants.{D, E, L}
use Rattle.protocol.specs.declared.record.ByteOrder.TheVariants.{Big, Little}
use Rattle.protocol.specs.declared.record.RecordFault.TheVariants.{Sequence, Quality, Time, Blockettes, No1000, Length}
use Rattle.protocol.specs.Made.{Fields, made}

-- the record that the vectors change
abbrev pub sample : List ℕ
sample =
    0x30 ∷ 0x30 ∷ 0x30 ∷ 0x30 ∷ 0x30 ∷ 0x31 ∷ 0x44 ∷ 0x20 ∷ 0x41 ∷ 0x50 ∷ 0x45 ∷ 0x20 ∷ 0x20 ∷ 0x20 ∷ 0x20 ∷ 0x42 ∷ 0x48
    ∷ 0x5a ∷ 0x47 ∷ 0x45 ∷ 0x07 ∷ 0xe8 ∷ 0x00 ∷ 0x3c ∷ 0x00 ∷ 0x00 ∷ 0x00 ∷ 0x00 ∷ 0x00 ∷ 0x00 ∷ 0x00 ∷ 0x64 ∷ 0x00
    ∷ 0x64 ∷ 0x00 ∷ 0x01 ∷ []
    ++ 0x00 ∷ 0x00 ∷ 0x00 ∷ 0x01 ∷ 0x00 ∷ 0x00 ∷ 0x00 ∷ 0x00 ∷ 0x00 ∷ 0x40 ∷ 0x00 ∷ 0x30 ∷ 0x03 ∷ 0xe8 ∷ 0x00 ∷ 0x00
    ∷ 0x0b ∷ 0x01 ∷ 0x09 ∷ 0x00 ∷ 0x00 ∷ 0x00 ∷ 0x00 ∷ 0x00 ∷ 0x00 ∷ 0x00 ∷ 0x00 ∷ 0x00 ∷ []
    ++ replicate 448 0

abbrev pub sample_fields : Fields
sample_fields = record {
  sequence = 1;
  quality = 68;
  station = codes "APE";
  location = [];
  channel = codes "BHZ";
  network = codes "GE";
  year = 2024;
  day = 60;
  hour = 0;
  minute = 0;
  second = 0;
  fraction = 0;
  samples = 100;
  factor = pos 100;
  multiplier = pos 1;
  encoding = 11;
  order = Big;
  extra = None;
  contents = [];
}

-- a list with other elements from a place on
abbrev pub with_at : ℕ → List ℕ → List ℕ → List ℕ
with_at i bs r = take i r ++ bs ++ drop (i + length bs) r

-- what is read of a record like the first, but for its count of blockettes, start, end, type and samples
abbrev pub reads_linked : ℕ → ℕ → ℕ → Kind → ℕ → Result Facts RecordFault
reads_linked links start stop kind samples =
    Ok (record {
      network = codes "GE";
      station = codes "APE";
      location = codes "  ";
      channel = codes "BHZ";
      start = pos start;
      stop = pos stop;
      kind = kind;
      samples = samples;
      links = links;
    })

-- the same with one blockette
abbrev pub reads_as : ℕ → ℕ → Kind → ℕ → Result Facts RecordFault
reads_as = reads_linked 1

-- The first record is the layout of its fields, and is made of them.
pub made-sample : made sample_fields ≡ Some sample
made-sample = refl

-- what the first record says
pub read-sample : header_of sample ≡ reads_as 17091648000000 17091648010000 D 100
read-sample = refl

-- in little order
pub read-little : header_of
    (with_at 20 (0xe8 ∷ 0x07 ∷ 0x3c ∷ 0x00 ∷ 0x00 ∷ 0x00 ∷ 0x00 ∷ 0x00 ∷ 0x00 ∷ 0x00 ∷ 0x64 ∷ 0x00 ∷ 0x64 ∷ 0x00 ∷ 0x01
    ∷ 0x00 ∷ 0x00 ∷ 0x00 ∷ 0x00 ∷ 0x01 ∷ 0x00 ∷ 0x00 ∷ 0x00 ∷ 0x00 ∷ 0x40 ∷ 0x00 ∷ 0x30 ∷ 0x00 ∷ 0xe8 ∷ 0x03 ∷ 0x00
    ∷ 0x00 ∷ 0x0b ∷ 0x00 ∷ 0x09 ∷ 0x00 ∷ []) sample) ≡ reads_as 17091648000000 17091648010000 D 100
read-little = refl

-- the layout of the same fields in little order
pub made-little : made (record sample_fields { order = Little })
    ≡ Some
    (with_at 20 (0xe8 ∷ 0x07 ∷ 0x3c ∷ 0x00 ∷ 0x00 ∷ 0x00 ∷ 0x00 ∷ 0x00 ∷ 0x00 ∷ 0x00 ∷ 0x64 ∷ 0x00 ∷ 0x64 ∷ 0x00 ∷ 0x01
    ∷ 0x00 ∷ 0x00 ∷ 0x00 ∷ 0x00 ∷ 0x01 ∷ 0x00 ∷ 0x00 ∷ 0x00 ∷ 0x00 ∷ 0x40 ∷ 0x00 ∷ 0x30 ∷ 0x00 ∷ 0xe8 ∷ 0x03 ∷ 0x00
    ∷ 0x00 ∷ 0x0b ∷ 0x00 ∷ 0x09 ∷ 0x00 ∷ []) sample)
made-little = refl

-- second 60
pub read-second_60 : header_of (with_at 26 (0x3c ∷ []) sample) ≡ reads_as 17091648600000 17091648610000 D 100
read-second_60 = refl

-- day 366 of a year with 365 days
pub read-day_366 : header_of (with_at 20 (0x07 ∷ 0xe7 ∷ 0x01 ∷ 0x6e ∷ []) sample)
    ≡ reads_as 17040672000000 17040672010000 D 100
read-day_366 = refl

-- a blockette whose next one is at its own place
pub read-own_place : header_of (with_at 50 (0x00 ∷ 0x30 ∷ []) sample) ≡ Err Blockettes
read-own_place = refl

-- no blockette
pub read-no_chain : header_of (with_at 46 (0x00 ∷ 0x00 ∷ []) sample) ≡ Err No1000
read-no_chain = refl

-- a record of 4,096 bytes by its own account
pub read-length_12 : header_of (with_at 54 (0x0c ∷ []) sample) ≡ Err Length
read-length_12 = refl

-- quality X
pub read-quality_x : header_of (with_at 6 (0x58 ∷ []) sample) ≡ Err Quality
read-quality_x = refl

-- year 0
pub read-year_0 : header_of (with_at 20 (0x00 ∷ 0x00 ∷ []) sample) ≡ Err Time
read-year_0 = refl

-- a detection blockette and no samples
pub read-detection : header_of
    (with_at 56 (0x00 ∷ 0xc9 ∷ []) (with_at 50 (0x00 ∷ 0x38 ∷ []) (with_at 30 (0x00 ∷ 0x00 ∷ 0x00 ∷ 0x00 ∷ []) sample)))
    ≡ reads_linked 2 17091648000000 17091648000000 E 0
read-detection = refl

-- factor 0
pub read-log : header_of (with_at 32 (0x00 ∷ 0x00 ∷ []) sample) ≡ reads_as 17091648000000 17091648000000 L 100
read-log = refl

-- factor -10
pub read-factor_below_0 : header_of (with_at 32 (0xff ∷ 0xf6 ∷ []) sample)
    ≡ reads_as 17091648000000 17091658000000 D 100
read-factor_below_0 = refl

-- one sample at factor 3
pub read-rounded_down : header_of (with_at 30 (0x00 ∷ 0x01 ∷ 0x00 ∷ 0x03 ∷ []) sample)
    ≡ reads_as 17091648000000 17091648003333 D 1
read-rounded_down = refl

-- sequence byte A
pub read-sequence_a : header_of (with_at 0 (0x41 ∷ []) sample) ≡ Err Sequence
read-sequence_a = refl

-- the first blockette within the header
pub read-first_47 : header_of (with_at 46 (0x00 ∷ 0x2f ∷ []) sample) ≡ Err Blockettes
read-first_47 = refl

-- the first blockette too near the end
pub read-first_509 : header_of (with_at 46 (0x01 ∷ 0xfd ∷ []) sample) ≡ Err Blockettes
read-first_509 = refl

-- a blockette in the last four bytes
pub read-first_508 : header_of (with_at 508 (0x07 ∷ 0xd0 ∷ 0x00 ∷ 0x00 ∷ []) (with_at 46 (0x01 ∷ 0xfc ∷ []) sample))
    ≡ Err No1000
read-first_508 = refl

-- a blockette 1000 in the last eight bytes
pub read-first_504 : header_of
    (with_at 504 (0x03 ∷ 0xe8 ∷ 0x00 ∷ 0x00 ∷ 0x0b ∷ 0x01 ∷ 0x09 ∷ 0x00 ∷ []) (with_at 46 (0x01 ∷ 0xf8 ∷ []) sample))
    ≡ reads_as 17091648000000 17091648010000 D 100
read-first_504 = refl

-- a blockette 1000 in the last seven bytes
pub read-first_505 : header_of
    (with_at 505 (0x03 ∷ 0xe8 ∷ 0x00 ∷ 0x00 ∷ 0x0b ∷ 0x01 ∷ 0x09 ∷ []) (with_at 46 (0x01 ∷ 0xf9 ∷ []) sample))
    ≡ Err Blockettes
read-first_505 = refl

-- a blockette whose next one is before it
pub read-back : header_of (with_at 56 (0x00 ∷ 0xc8 ∷ 0x00 ∷ 0x30 ∷ []) (with_at 50 (0x00 ∷ 0x38 ∷ []) sample))
    ≡ Err Blockettes
read-back = refl

-- the days of a year in little order that no record is made for
abbrev pub days_to : ℕ → List ℕ
days_to zero = []
days_to (suc n) = days_to n ++ suc n ∷ []

abbrev pub unmade_days : ByteOrder → ℕ → List ℕ
unmade_days o year = filter (λ day. is_none (made (record sample_fields { order = o; year = year; day = day })))
    (days_to 366)

-- the three days of 2056 that fit in big order too
pub unmade-little_2056 : unmade_days Little 2056 ≡ (1 ∷ 256 ∷ 257 ∷ [])
unmade-little_2056 = refl

pub unmade-big_2056 : unmade_days Big 2056 ≡ []
unmade-big_2056 = refl

pub unmade-little_2024 : unmade_days Little 2024 ≡ []
unmade-little_2024 = refl
