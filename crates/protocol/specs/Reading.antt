-- What a record says, in the words of the standard: its facts, and the faults that it has. A law says that the record
-- is read so. SEED Reference Manual 2.4, chapter 8: the fixed section of data header, the chain of blockettes,
-- blockette 1000. Left out: what Record leaves out too.
use Rattle.std.specs.Prelude.{◌≡◌, ◌≢◌, ℕ, ◌+◌, ◌*◌, ◌<◌, ◌≤◌, ◌⊎◌, ⊤, List, [], ◌∷◌, ◌++◌, length, take, replicate}
use Rattle.std.specs.Prelude.{slice_index, slice_range, pos, ◌+ℤ◌, All, Any}
use Rattle.protocol.specs.declared.record.ByteOrder.{ByteOrder}
use Rattle.protocol.specs.Record.{Facts, Ratio, start_of, ticks_of, word}
use Rattle.protocol.specs.declared.record.RecordFault.{RecordFault}
use Rattle.protocol.specs.declared.record.Kind.{Kind}
use Rattle.protocol.specs.declared.record.ByteOrder.TheVariants.{Big, Little}
use Rattle.protocol.specs.declared.record.Kind.TheVariants.{D, E, C, O, T, L}
use Rattle.protocol.specs.declared.record.RecordFault.TheVariants.{Sequence, Quality, Time, Blockettes, No1000, Length}

-- It is not so.
abbrev pub Not : Type 0 → Type 0
Not P = P → ⊥

-- a digit, a space or 0
abbrev pub IsSequenceByte : ℕ → Type 0
IsSequenceByte b = (b ≡ 0) ⊎ (b ≡ 32) ⊎ ((48 ≤ b) × (b ≤ 57))

-- D, R, Q or M
abbrev pub IsQuality : ℕ → Type 0
IsQuality b = (b ≡ 68) ⊎ (b ≡ 82) ⊎ (b ≡ 81) ⊎ (b ≡ 77)

-- In that order of bytes the start has a year of 1900 to 2100 and a day of 1 to 366.
abbrev pub HasDate : ByteOrder → List ℕ → Type 0
HasDate o r = (1900 ≤ word o r 20) × (word o r 20 ≤ 2100) × (1 ≤ word o r 22) × (word o r 22 ≤ 366)

-- All numbers are big-endian where that reading has a date, and else little-endian where that reading has one.
abbrev pub IsOrderOf : List ℕ → ByteOrder → Type 0
IsOrderOf r Big = HasDate Big r
IsOrderOf r Little = Not (HasDate Big r) × HasDate Little r

-- The time is none of a day.
abbrev pub IsLate : ByteOrder → List ℕ → Type 0
IsLate o r = (23 < slice_index r 24) ⊎ (59 < slice_index r 25) ⊎ (60 < slice_index r 26) ⊎ (9999 < word o r 28)

-- The two bytes at `place` hold the first of the offsets, each blockette holds the next one, and the last holds 0.
abbrev pub Follow : ByteOrder → List ℕ → (place : ℕ) → List ℕ → Type 0
Follow o r place [] = word o r place ≡ 0
Follow o r place (at ∷ offsets) = (word o r place ≡ at) × Follow o r (at + 2) offsets

-- Each offset is above the one before, and the first is no less than `least`.
abbrev pub Rise : (least : ℕ) → List ℕ → Type 0
Rise least [] = ⊤
Rise least (at ∷ offsets) = (least ≤ at) × Rise (at + 1) offsets

-- A blockette begins with four bytes, and one of type 1000 has eight.
abbrev pub Fits : ByteOrder → List ℕ → ℕ → Type 0
Fits o r at = (at + 4 ≤ 512) × (word o r at ≡ 1000 → at + 8 ≤ 512)

-- the offsets of all blockettes, in a chain that is well formed
pub record IsChain (o : ByteOrder) (r : List ℕ) (offsets : List ℕ) : Type 0 where
  pub follow : Follow o r 46 offsets
  pub rise : Rise 48 offsets
  pub fit : All (Fits o r) offsets

-- The first of the offsets at which P holds.
pub record IsFirst (P : ℕ → Type 0) (offsets : List ℕ) (at : ℕ) : Type 0 where
  pub before : List ℕ
  pub after : List ℕ
  pub whole : before ++ at ∷ after ≡ offsets
  pub here : P at
  pub not_before : All (λ other. Not (P other)) before

-- A blockette 1000 begins there.
abbrev pub Is1000 : ByteOrder → List ℕ → ℕ → Type 0
Is1000 o r at = word o r at ≡ 1000

-- the code in a field, which is padded with spaces
pub record IsCodeIn (field code : List ℕ) : Type 0 where
  pub spaces : ℕ
  pub padded : code ++ replicate spaces 32 ≡ field
  pub no_space_last : (front : List ℕ) → Not (code ≡ front ++ 32 ∷ [])

-- the kind that a blockette of that type gives a record without samples
abbrev pub Gives : ℕ → Kind → Type 0
Gives type D = ⊥
Gives type E = (type ≡ 200) ⊎ (type ≡ 201)
Gives type C = (type ≡ 300) ⊎ (type ≡ 310) ⊎ (type ≡ 320) ⊎ (type ≡ 390) ⊎ (type ≡ 395)
Gives type O = type ≡ 2000
Gives type T = type ≡ 500
Gives type L = ⊥

-- A blockette that gives a type begins there.
abbrev pub GivesKind : ByteOrder → List ℕ → ℕ → Type 0
GivesKind o r at = (k : Kind) × Gives (word o r at) k

-- The first blockette that gives a kind gives this one; where none does, it is D.
abbrev pub IsGivenKind : ByteOrder → List ℕ → List ℕ → Kind → Type 0
IsGivenKind o r offsets k =
    ((at : ℕ) × IsFirst (GivesKind o r) offsets at × Gives (word o r at) k) ⊎
    (All (λ at. Not (GivesKind o r at)) offsets × (k ≡ D))

-- with samples, by the rate factor at 32; without, by the blockettes
abbrev pub IsKind : ByteOrder → List ℕ → List ℕ → Kind → Type 0
IsKind o r offsets k =
    ((0 < word o r 30) × (word o r 32 ≢ 0) × (k ≡ D)) ⊎ ((0 < word o r 30) × (word o r 32 ≡ 0) × (k ≡ L)) ⊎
    ((word o r 30 ≡ 0) × IsGivenKind o r offsets k)

-- the greatest whole number that is not above the ratio
pub record IsRoundedDown (x : Ratio) (j : ℕ) : Type 0 where
  pub within : j * x.under ≤ x.over
  pub greatest : (i : ℕ) → i * x.under ≤ x.over → i ≤ j

-- the facts of a record
pub record HasFacts (r : List ℕ) (x : Facts) : Type 0 where
  pub sequence : All IsSequenceByte (take 6 r)
  pub quality : IsQuality (slice_index r 6)
  pub order : ByteOrder
  pub is_order : IsOrderOf r order
  pub not_late : Not (IsLate order r)
  pub offsets : List ℕ
  pub is_chain : IsChain order r offsets
  pub place_of_1000 : ℕ
  pub is_1000 : IsFirst (Is1000 order r) offsets place_of_1000
  pub length_byte : slice_index r (place_of_1000 + 6) ≡ 9
  pub station : IsCodeIn (slice_range r 8 13) x.station
  pub location : x.location ≡ slice_range r 13 15
  pub channel : x.channel ≡ slice_range r 15 18
  pub network : IsCodeIn (slice_range r 18 20) x.network
  pub start : x.start ≡ start_of order r
  pub ticks : ℕ
  pub are_ticks : IsRoundedDown (ticks_of order r) ticks
  pub stop : x.stop ≡ x.start +ℤ pos ticks
  pub kind : IsKind order r offsets x.kind
  pub samples : x.samples ≡ word order r 30
  pub links : x.links ≡ length offsets

-- a fault, as a sentence on the record
abbrev pub IsTrueOf : List ℕ → RecordFault → Type 0
IsTrueOf r Sequence = Any (λ b. Not (IsSequenceByte b)) (take 6 r)
IsTrueOf r Quality = Not (IsQuality (slice_index r 6))
IsTrueOf r Time = ((o : ByteOrder) → Not (IsOrderOf r o)) ⊎ ((o : ByteOrder) × IsOrderOf r o × IsLate o r)
IsTrueOf r Blockettes = (o : ByteOrder) × IsOrderOf r o × ((offsets : List ℕ) → Not (IsChain o r offsets))
IsTrueOf r No1000 = (o : ByteOrder) × (offsets : List ℕ) × IsOrderOf r o × IsChain o r offsets ×
    All (λ at. Not (Is1000 o r at)) offsets
IsTrueOf r Length =
    (o : ByteOrder) × (offsets : List ℕ) × (at : ℕ) × IsOrderOf r o × IsChain o r offsets
    × IsFirst (Is1000 o r) offsets at ×
    (slice_index r (at + 6) ≢ 9)

-- the order in which faults are looked for
abbrev pub fault_number : RecordFault → ℕ
fault_number Sequence = 1
fault_number Quality = 2
fault_number Time = 3
fault_number Blockettes = 4
fault_number No1000 = 5
fault_number Length = 6

-- the first fault that is true of the record
pub record IsFirstFault (r : List ℕ) (f : RecordFault) : Type 0 where
  pub here : IsTrueOf r f
  pub none_before : (g : RecordFault) → fault_number g < fault_number f → Not (IsTrueOf r g)
