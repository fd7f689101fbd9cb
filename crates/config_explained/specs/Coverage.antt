-- How much of a network is admitted by a list of networks.
use Rattle.std.specs.Prelude.{◌≡◌, ℕ, zero, suc, if◌then◌else◌, not, ◌^◌, ◌<◌, ◌==◌, ◌&&◌}
use Rattle.std.specs.Prelude.{Bool, true, false, List, bit_and, bit_or}
use Rattle.std.specs.Int.{bit_at, bit_not, w32}
use Rattle.protocol.specs.Access.{Token, is_in, allows}
use Rattle.config_explained.specs.declared.coverage.Coverage.{Coverage}
use Rattle.config_explained.specs.declared.coverage.Coverage.TheVariants.{Whole, Part, Nothing}

-- all numbers below one pass a test
abbrev pub every : (ℕ → Bool) → ℕ → Bool
every test zero = true
every test (suc n) = test n && every test n

-- an address is admitted, or not, if it is in a network
abbrev pub is_admitted : List Token → Token → ℕ → Bool
is_admitted list n a = if is_in a n then allows list a else true

abbrev pub is_refused : List Token → Token → ℕ → Bool
is_refused list n a = if is_in a n then not (allows list a) else true

-- of all addresses of a network: all are admitted, or none is
unfoldable pub admits_all : List Token → Token → Bool
admits_all list n = every (is_admitted list n) (2 ^ 32)

unfoldable pub admits_none : List Token → Token → Bool
admits_none list n = every (is_refused list n) (2 ^ 32)

-- how much of a network is admitted
abbrev pub coverage : List Token → Token → Coverage
coverage list n = if admits_all list n then Whole else if admits_none list n then Nothing else Part

-- the same in words
abbrev pub AdmitsAll : List Token → Token → Type 0
AdmitsAll list n = (a : ℕ) → a < 2 ^ 32 → is_in a n ≡ true → allows list a ≡ true

abbrev pub AdmitsNone : List Token → Token → Type 0
AdmitsNone list n = (a : ℕ) → a < 2 ^ 32 → is_in a n ≡ true → allows list a ≡ false

-- ---- two networks

-- the first has all addresses of the second
abbrev pub has_all : Token → Token → Bool
has_all n cube =
    (bit_and n.mask cube.mask == n.mask) && (bit_and n.address n.mask == bit_and cube.address n.mask)

-- the same, of one that others may have
abbrev pub has_all_of : Token → Token → Bool
has_all_of cube n = has_all n cube

-- they have an address in common
abbrev pub meets : Token → Token → Bool
meets cube n =
    bit_and n.address (bit_and n.mask cube.mask) == bit_and cube.address (bit_and n.mask cube.mask)

-- the addresses of a network without a bit, and those with it
abbrev pub without : ℕ → Token → Token
without bit n = record { address = bit_and n.address (bit_not w32 bit); mask = bit_or n.mask bit }

abbrev pub with : ℕ → Token → Token
with bit n = record { address = bit_or n.address bit; mask = bit_or n.mask bit }

-- a number that is one bit, which another has
pub record IsBitOf (bit free : ℕ) : Type 0 where
  pub place : ℕ
  pub below : place < 32
  pub is : bit ≡ 2 ^ place
  pub one : bit_at free place ≡ 1
