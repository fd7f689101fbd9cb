-- Stations in the order of their codes.
use Rattle.std.specs.Prelude.{◌≡◌, ℕ, ◌+◌, ◌<◌, ◌≤◌, Bool, true, false, List, length, All}
use Rattle.std.specs.List.{slice_index}
use Rattle.std.specs.List.Sorted.{IsNonDecreasingBy}
use Rattle.protocol.specs.Catalog.{Config, Entry, Station}
use Rattle.catalog.specs.Indexing.{key, rank}
use Rattle.catalog.specs.declared.codes.Codes.{Codes}
use Rattle.catalog.specs.Places.{station_at, Seen}

-- where a station stands in that order
abbrev pub rank_of : Station → ℕ
rank_of s = rank (key s.network s.code)

-- the same of the station at a place
abbrev pub rank_at : List Entry → ℕ → ℕ
rank_at entries place = rank_of (station_at entries place)

-- each of the first places is among the others
abbrev pub AreAmong : List ℕ → List ℕ → Type 0
AreAmong ps qs = (i : ℕ) → i < length ps → (j : ℕ) × (j < length qs) × (slice_index qs j ≡ slice_index ps i)

-- Those are the same places, in the order of their stations' codes.
pub record AreInOrder (station : ℕ → Station) (ps os : List ℕ) : Type 0 where
  pub rises : IsNonDecreasingBy (λ p. rank_of (station p)) os
  pub has : AreAmong ps os
  pub only : AreAmong os ps

-- These are places of a configuration that has so many stations, in both orders.
pub record FitsIn (count : ℕ) (station : ℕ → Station) (seen : Seen) : Type 0 where
  pub within : All (λ p. p < count) seen.places
  pub ordered : AreInOrder station seen.places seen.by_codes

-- the same of a configuration
abbrev pub Fits : Config → Seen → Type 0
Fits config seen = FitsIn (length config.entries) (station_at config.entries) seen

-- ---- a search

-- A test holds of what is before a place in a list, and of nothing from there on.
pub record IsFirstFrom (p : ℕ → Bool) (xs : List ℕ) (at : ℕ) : Type 0 where
  pub inside : at ≤ length xs
  pub before : (i : ℕ) → i < at → p (slice_index xs i) ≡ true
  pub after : (i : ℕ) → at ≤ i → i < length xs → p (slice_index xs i) ≡ false

-- A test holds of all that is before some places of a list, and of nothing after them.
pub record IsAround (p : ℕ → Bool) (xs : List ℕ) (at count : ℕ) : Type 0 where
  pub before : (i : ℕ) → i < at → p (slice_index xs i) ≡ true
  pub after : (i : ℕ) → at + count ≤ i → i < length xs → p (slice_index xs i) ≡ false

-- the codes of the station at a place
abbrev pub key_at : List Entry → ℕ → Codes
key_at entries place = key (station_at entries place).network (station_at entries place).code

-- A place is one of these, and its station has the codes.
pub record HasCodesAt (entries : List Entry) (ps : List ℕ) (sought : Codes) (place : ℕ) : Type 0 where
  pub at : ℕ
  pub inside : at < length ps
  pub is : place ≡ slice_index ps at
  pub there : place < length entries
  pub codes : key_at entries place ≡ sought

-- The station at one of these places, if it is there, hasn't the codes.
abbrev pub LacksCodesAt : List Entry → List ℕ → ℕ → Codes → Type 0
LacksCodesAt entries ps at codes = at < length ps → slice_index ps at < length entries
    → key_at entries (slice_index ps at) ≡ codes → ⊥
