-- The address that a text spells: four numbers joined by dots.
use Rattle.std.specs.Prelude.{ℕ, ◌+◌, ◌*◌, Bool, nat_le, ◌==◌, if◌then◌else◌, List, [], ◌∷◌, Option, Some, None}
use Rattle.std.specs.Prelude.{option_and_then}
use Rattle.std.specs.Option.{option_map}
use Rattle.protocol.specs.Pieces.{split}
use Rattle.protocol.specs.Time.{digits_between}

abbrev pub is_dot : ℕ → Bool
is_dot b = b == 46

-- a number that a byte holds
abbrev pub byte_of : ℕ → Option ℕ
byte_of n = if nat_le n 255 then Some n else None

-- one of the four numbers of an address: 0 to 255, of one to three digits
abbrev pub octet_of : List ℕ → Option ℕ
octet_of digits = option_and_then byte_of (digits_between 1 3 digits)

-- four numbers, where all are there
abbrev pub all_four : Option ℕ → Option ℕ → Option ℕ → Option ℕ → Option (List ℕ)
all_four (Some a) (Some b) (Some c) (Some d) = Some (a ∷ b ∷ c ∷ d ∷ [])
all_four _ _ _ _ = None

-- the numbers of what stands between the dots
abbrev pub octets_of_parts : List (List ℕ) → Option (List ℕ)
octets_of_parts (a ∷ b ∷ c ∷ d ∷ []) = all_four (octet_of a) (octet_of b) (octet_of c) (octet_of d)
octets_of_parts _ = None

-- the four numbers of an address
abbrev pub octets_of : List ℕ → Option (List ℕ)
octets_of text = octets_of_parts (split is_dot text)

-- the number whose bytes those are, the high one first
abbrev pub big_endian : ℕ → List ℕ → ℕ
big_endian n [] = n
big_endian n (b ∷ bs) = big_endian (256 * n + b) bs

-- the address that a text spells, as a number of 32 bits; the first of the four numbers is its high byte
abbrev pub address_of : List ℕ → Option ℕ
address_of text = option_map (big_endian 0) (octets_of text)
