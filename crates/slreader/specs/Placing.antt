-- Where the wants of a station stand among all wants.
use Rattle.std.specs.Prelude.{◌≡◌, ℕ, ◌+◌, ◌<◌, ◌≤◌, ◌==◌, Bool, false, ◌&&◌, List, length, map, drop, slice_index_or}
use Rattle.std.specs.Prelude.{Option, Some, None}
use Rattle.std.specs.List.{list_any, position_from}
use Rattle.std.specs.Str.{bytes_eq}
use Rattle.std.specs.declared.hash.FoldHasher.{FoldHasher}
use Rattle.std.specs.declared.hash.BuildHasherDefault.{BuildHasherDefault}
use Rattle.std.specs.HashMap.{HashMap, get}
use Rattle.text_parts.specs.Spelling.{spelled, AreBytes}
use Rattle.slreader.specs.Tallies.{Resume}
use Rattle.slreader.specs.declared.places.WantCodes.{WantCodes}
use Rattle.slreader.specs.declared.places.WantPlaces.{WantPlaces}

-- the codes of a station
pub record Name : Type 0 where
  pub network : List ℕ
  pub station : List ℕ

abbrev pub name_by : List ℕ → List ℕ → Name
name_by network station = record { network = network; station = station }

-- those of a want's station
abbrev pub name_of : Resume → Name
name_of r = record { network = r.network; station = r.station }

abbrev pub names : List Resume → List Name
names rs = map name_of rs

-- Two are the same.
abbrev pub is_same_name : Name → Name → Bool
is_same_name n m = bytes_eq n.network m.network && bytes_eq n.station m.station

-- codes as long as those of a record may be, which can be spelled as a key
pub record IsShort (n : Name) : Type 0 where
  pub network : length n.network ≤ 2
  pub station : length n.station ≤ 5
  pub network_bytes : AreBytes n.network
  pub station_bytes : AreBytes n.station

-- ---- as numbers

abbrev pub codes_eq : WantCodes → WantCodes → Bool
codes_eq x y = (x.network == y.network) && (x.station == y.station)

abbrev pub key : Name → WantCodes
key n = record { network = spelled n.network; station = spelled n.station }

-- places by codes
abbrev pub Firsts : Type 0
Firsts = HashMap WantCodes ℕ (BuildHasherDefault FoldHasher)

-- ---- places

-- the first from a place on that has the codes
abbrev pub first_from : Name → ℕ → List Name → Option ℕ
first_from n place ns = position_from (λ m. is_same_name m n) place (drop place ns)

-- Each name has the first place from one on.
abbrev pub Finds : Firsts → ℕ → List Name → Type 0
Finds firsts place ns = (n : Name) → IsShort n → get codes_eq firsts (key n) ≡ first_from n place ns

-- From each place from one on it is known where the same name comes next.
abbrev pub Follows : List (Option ℕ) → ℕ → List Name → Type 0
Follows nexts place ns =
    (k : ℕ) (n : Name) → place ≤ k → k < length ns → IsShort n → slice_index_or ns k n ≡ n
    → slice_index_or nexts k None ≡ first_from n (k + 1) ns

-- That is what is kept of wants none of which is of any station.
pub record ArePlaces (firsts : Firsts) (nexts : List (Option ℕ)) (rs : List Resume) : Type 0 where
  pub named : list_any (λ r. r.is_any) rs ≡ false
  pub finds : Finds firsts 0 (names rs)
  pub follows : Follows nexts 0 (names rs)

-- what is kept, if anything is
abbrev pub HasPlaces : Option WantPlaces → List Resume → Type 0
HasPlaces kept rs = (places : WantPlaces) → kept ≡ Some places → ArePlaces places.firsts places.nexts.items rs
