-- Where stations stand, found by their codes. The index is this project's own.
use Rattle.std.specs.Prelude.{◌≡◌, ℕ, ◌+◌, ◌*◌, ◌^◌, ◌≤◌, ◌==◌, Bool, ◌&&◌, List, length, Option}
use Rattle.std.specs.List.{position}
use Rattle.std.specs.declared.hash.FoldHasher.{FoldHasher}
use Rattle.std.specs.declared.hash.BuildHasherDefault.{BuildHasherDefault}
use Rattle.std.specs.HashMap.{HashMap, get}
use Rattle.protocol.specs.Catalog.{Entry, has_codes}
use Rattle.text_parts.specs.Spelling.{spelled, AreBytes}
use Rattle.catalog.specs.declared.codes.Codes.{Codes}

-- places by codes
abbrev pub Places : Type 0
Places = HashMap Codes ℕ (BuildHasherDefault FoldHasher)

-- the codes are the same
abbrev pub codes_eq : Codes → Codes → Bool
codes_eq x y = (x.network == y.network) && (x.code == y.code)

-- the key that these codes are
abbrev pub key : List ℕ → List ℕ → Codes
key network code = record { network = spelled network; code = spelled code }

-- both codes as one number
abbrev pub rank : Codes → ℕ
rank codes = codes.network * 2 ^ 64 + codes.code

-- a number is that of a station's code
pub record IsNumberOf (number : ℕ) (code : List ℕ) : Type 0 where
  pub short : length code ≤ 5
  pub bytes : AreBytes code
  pub is : number ≡ spelled code

-- the place at these codes
abbrev pub place_in : Places → List ℕ → List ℕ → Option ℕ
place_in places network code = get codes_eq places (key network code)

-- the place of the first station that has the codes
abbrev pub first_place : List Entry → List ℕ → List ℕ → Option ℕ
first_place entries network code = position (λ e. has_codes network code e.station) entries

-- codes as long as a station may have them
abbrev pub AreShort : List ℕ → List ℕ → Type 0
AreShort network code = (length network ≤ 2) × (length code ≤ 5)

-- codes that can be spelled as a key
pub record AreCodes (network code : List ℕ) : Type 0 where
  pub short : AreShort network code
  pub network_bytes : AreBytes network
  pub code_bytes : AreBytes code

-- a station's codes are such
abbrev pub HasShortCodes : Entry → Type 0
HasShortCodes e = AreCodes e.station.network e.station.code

-- Each pair of codes has the place of the first station that has them, and none where no station does.
abbrev pub Finds : Places → List Entry → Type 0
Finds places entries =
    (network code : List ℕ) → AreCodes network code → place_in places network code ≡ first_place entries network code
