-- What a server reads of a data record of 512 bytes: its codes, its time, its type, or why it is no record. SEED
-- Reference Manual 2.4, chapter 8: the fixed section of data header, the chain of blockettes, blockette 1000. Left out:
-- samples, flags, the time correction, and what blockettes other than 1000 hold (the rate of blockette 100 too).
use Rattle.std.specs.Prelude.{ℕ, ◌+◌, ◌-◌, ◌*◌, ◌/◌, Bool, ◌&&◌, ◌||◌, not, zero, suc, take, unwrap_or, find, Result}
use Rattle.std.specs.Prelude.{Ok, Err, nat_le, nat_lt, ◌==◌, if◌then◌else◌, List, [], ◌∷◌, ◌++◌, length, replicate}
use Rattle.std.specs.Prelude.{slice_index, slice_range, ℤ, pos, negsuc, ◌+ℤ◌, Option, Some, None, option_map}
use Rattle.std.specs.List.{list_all}
use Rattle.protocol.specs.declared.record.ByteOrder.{ByteOrder}
use Rattle.protocol.specs.declared.record.ByteOrder.TheVariants.{Big, Little}
use Rattle.protocol.specs.declared.record.Kind.{Kind}
use Rattle.protocol.specs.declared.record.Kind.TheVariants.{D, E, C, O, T, L}
use Rattle.protocol.specs.declared.record.RecordFault.{RecordFault}
use Rattle.protocol.specs.declared.record.RecordFault.TheVariants.{Sequence, Quality, Time, Blockettes, No1000, Length}
use Rattle.protocol.specs.declared.reason.Reason.{Reason}
use Rattle.protocol.specs.declared.reason.Reason.TheVariants as reason
use Rattle.protocol.specs.Time.{is_day, is_time_of_day, tick}

-- What a server keeps of a record. Network and station have no spaces at their end; start and stop are ticks, and stop
-- is the end of the last sample; samples is their count, and links that of the blockettes in the chain.
pub record Facts : Type 0 where
  pub network : List ℕ
  pub station : List ℕ
  pub location : List ℕ
  pub channel : List ℕ
  pub start : ℤ
  pub stop : ℤ
  pub kind : Kind
  pub samples : ℕ
  pub links : ℕ

-- ---- numbers and codes

-- the number in the two bytes at a place
abbrev pub word : ByteOrder → List ℕ → ℕ → ℕ
word Big r i = 256 * slice_index r i + slice_index r (i + 1)
word Little r i = slice_index r i + 256 * slice_index r (i + 1)

-- a word as a number with a sign, by two's complement: negsuc k is -(k + 1)
abbrev pub signed : ℕ → ℤ
signed n = if nat_lt n 32768 then pos n else negsuc (65535 - n)

-- a byte before bytes that have no space at their end
abbrev pub cons_trimmed : ℕ → List ℕ → List ℕ
cons_trimmed b [] = if b == 32 then [] else b ∷ []
cons_trimmed b (c ∷ bs) = b ∷ c ∷ bs

-- the bytes without the spaces at their end
abbrev pub trimmed : List ℕ → List ℕ
trimmed [] = []
trimmed (b ∷ bs) = cons_trimmed b (trimmed bs)

-- the bytes with spaces behind them, up to the width n
abbrev pub padded : (n : ℕ) → List ℕ → List ℕ
padded n bs = bs ++ replicate (n - length bs) 32

-- ---- the start

-- In that order of bytes the start has a year and a day.
abbrev pub has_date : ByteOrder → List ℕ → Bool
has_date o r = is_day (word o r 20) (word o r 22)

-- All numbers are big-endian where that reading has a date, and else little-endian where that reading has one.
abbrev pub order_of : List ℕ → Option ByteOrder
order_of r = if has_date Big r then Some Big else if has_date Little r then Some Little else None

-- its ticks
abbrev pub start_of : ByteOrder → List ℕ → ℤ
start_of o r = tick (word o r 20) (word o r 22) (slice_index r 24) (slice_index r 25) (slice_index r 26) (word o r 28)

-- ---- the end

-- a multiplier of 0 counts as 1
abbrev pub multiplier : ℕ → ℤ
multiplier n = if n == 0 then pos 1 else signed n

-- a fraction, `over` by `under`
pub record Ratio : Type 0 where
  pub over : ℕ
  pub under : ℕ

-- such a fraction
abbrev pub ratio : ℕ → ℕ → Ratio
ratio over under = record { over = over; under = under }

-- the ticks that n samples take at a rate factor and multiplier: a factor above 0 is a number of samples in a second,
-- one below 0 a number of seconds for a sample, and a multiplier above 0 multiplies the samples, one below 0 divides
-- them
abbrev pub ticks_for : ℕ → (factor multiplier : ℤ) → Ratio
ticks_for n (pos zero) m = ratio 0 1
ticks_for n (pos f) (pos m) = ratio (n * 10000) (f * m)
ticks_for n (pos f) (negsuc k) = ratio (n * 10000 * (k + 1)) f
ticks_for n (negsuc k) (pos m) = ratio (n * 10000 * (k + 1)) m
ticks_for n (negsuc k) (negsuc l) = ratio (n * 10000 * (k + 1) * (l + 1)) 1

-- of the samples at 30, the factor at 32 and the multiplier at 34
abbrev pub ticks_of : ByteOrder → List ℕ → Ratio
ticks_of o r = ticks_for (word o r 30) (signed (word o r 32)) (multiplier (word o r 34))

-- rounded down
abbrev pub quotient : Ratio → ℕ
quotient x = x.over / x.under

-- ---- the chain of blockettes

-- The blockette at this offset lies within the record. One of type 1000 has eight bytes, of any other four are read.
abbrev pub fits : ByteOrder → List ℕ → ℕ → Bool
fits o r at = nat_le (at + 4) 512 && (not (word o r at == 1000) || nat_le (at + 8) 512)

-- what stands at an offset that a record names: 0 stands for none, and the offsets rise
pub data Link : Type 0 where
  NoBlockette : Link
  Blockette : Link
  Malformed : Link

abbrev pub link_at : ByteOrder → List ℕ → (least : ℕ) → ℕ → Link
link_at o r least at = if at == 0 then NoBlockette else if nat_le least at && fits o r at then Blockette else Malformed

-- the offset `at` and those after it, of which the first is named at at + 2
abbrev pub linked : ByteOrder → List ℕ → Link → ℕ → (ℕ → Option (List ℕ)) → Option (List ℕ)
linked o r NoBlockette at rest = Some []
linked o r Blockette at rest = option_map (λ offsets. at ∷ offsets) (rest (word o r (at + 2)))
linked o r Malformed at rest = None

-- The offsets of the blockettes, where the first is to be at `at` and none below `least`; None where the chain isn't
-- well formed. The chain has fewer than `steps` blockettes, since its offsets rise.
abbrev pub chain_from : (steps : ℕ) → ByteOrder → List ℕ → (least : ℕ) → ℕ → Option (List ℕ)
chain_from zero o r least at = None
chain_from (suc steps) o r least at = linked o r (link_at o r least at) at (chain_from steps o r (at + 1))

-- The header has 48 bytes and names the first blockette at 46. The offsets are at most 508.
abbrev pub chain_of : ByteOrder → List ℕ → Option (List ℕ)
chain_of o r = chain_from 512 o r 48 (word o r 46)

-- the first blockette of that type
abbrev pub first_of_type : ByteOrder → List ℕ → ℕ → List ℕ → Option ℕ
first_of_type o r type offsets = find (λ at. word o r at == type) offsets

-- ---- the type of the record

-- the type that a blockette's type gives a record without samples
abbrev pub kind_of_type : ℕ → Option Kind
kind_of_type n =
    if n == 200 || n == 201 then Some E
    else if n == 300 || n == 310 || n == 320 || n == 390 || n == 395 then Some C
    else if n == 500 then Some T
    else if n == 2000 then Some O
    else None

-- that of the first blockette that gives one, and else D
abbrev pub first_kind : ByteOrder → List ℕ → List ℕ → Kind
first_kind o r [] = D
first_kind o r (at ∷ offsets) = unwrap_or (kind_of_type (word o r at)) (first_kind o r offsets)

-- with samples, D, or L where the rate factor is 0; without, by the blockettes
abbrev pub kind_of : ByteOrder → List ℕ → List ℕ → Kind
kind_of o r offsets = if nat_lt 0 (word o r 30) then (if word o r 32 == 0 then L else D) else first_kind o r offsets

-- ---- the facts, or the first fault

-- the facts of a record with these blockettes
abbrev pub facts_in : ByteOrder → List ℕ → List ℕ → Facts
facts_in o r offsets =
    record {
      network = trimmed (slice_range r 18 20);
      station = trimmed (slice_range r 8 13);
      location = slice_range r 13 15;
      channel = slice_range r 15 18;
      start = start_of o r;
      stop = start_of o r +ℤ pos (quotient (ticks_of o r));
      kind = kind_of o r offsets;
      samples = word o r 30;
      links = length offsets;
    }

-- a digit, a space or 0
abbrev pub is_sequence_byte : ℕ → Bool
is_sequence_byte b = b == 0 || b == 32 || (nat_le 48 b && nat_le b 57)

-- D, R, Q or M
abbrev pub is_quality : ℕ → Bool
is_quality b = b == 68 || b == 82 || b == 81 || b == 77

-- The start has a time of a day.
abbrev pub has_time : ByteOrder → List ℕ → Bool
has_time o r = is_time_of_day (slice_index r 24) (slice_index r 25) (slice_index r 26) (word o r 28)

-- what the program tells of a fault
abbrev pub record_reason : RecordFault → Reason
record_reason Sequence = reason.Sequence
record_reason Quality = reason.Quality
record_reason Time = reason.Time
record_reason Blockettes = reason.Blockettes
record_reason No1000 = reason.No1000
record_reason Length = reason.Length

-- The byte at 6 of the first blockette 1000 gives the record's length, as a power of two: 2^9 is 512.
abbrev pub read_length : ByteOrder → List ℕ → List ℕ → Option ℕ → Result Facts RecordFault
read_length o r offsets None = Err No1000
read_length o r offsets (Some at) = if slice_index r (at + 6) == 9 then Ok (facts_in o r offsets) else Err Length

-- the chain, which is to be well formed
abbrev pub read_chain : ByteOrder → List ℕ → Option (List ℕ) → Result Facts RecordFault
read_chain o r None = Err Blockettes
read_chain o r (Some offsets) = read_length o r offsets (first_of_type o r 1000 offsets)

-- the start, which is to be a time in some order of bytes
abbrev pub read_in : List ℕ → Option ByteOrder → Result Facts RecordFault
read_in r None = Err Time
read_in r (Some o) = if has_time o r then read_chain o r (chain_of o r) else Err Time

-- the facts of a record, or its first fault
abbrev pub header_of : List ℕ → Result Facts RecordFault
header_of r =
    if list_all is_sequence_byte (take 6 r)
    then (if is_quality (slice_index r 6) then read_in r (order_of r) else Err Quality)
    else Err Sequence
