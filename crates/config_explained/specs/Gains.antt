-- Which addresses a new list admits that an old one doesn't, as networks.
use Rattle.std.specs.Prelude.{ℕ, zero, suc, ◌^◌, ◌==◌, if◌then◌else◌, List, [], ◌∷◌, ◌++◌, bit_and, bit_or}
use Rattle.protocol.specs.Access.{Token}
use Rattle.config_explained.specs.Coverage.{coverage, meets, with, without}
use Rattle.config_explained.specs.declared.coverage.Coverage.{Coverage}
use Rattle.config_explained.specs.declared.coverage.Coverage.TheVariants.{Whole, Part, Nothing}

-- all addresses
abbrev pub everything : Token
everything = record { address = 0; mask = 0 }

-- How much of a network gains, by how much of it the old and the new list admit. `Part` is told if that doesn't say it.
abbrev pub gain_of : (old new : Coverage) → Coverage
gain_of Whole new = Nothing
gain_of Part Nothing = Nothing
gain_of Part Whole = Part
gain_of Part Part = Part
gain_of Nothing Nothing = Nothing
gain_of Nothing Whole = Whole
gain_of Nothing Part = Part

-- the networks of one, by how much of it gains, and those of its halves
abbrev pub by_gain : Coverage → Token → (halves : List Token) → List Token
by_gain Nothing n halves = []
by_gain Whole n halves = n ∷ []
by_gain Part n halves = halves

-- the bits that a mask has, or that of one of some networks which meet another one
abbrev pub masks_of : ℕ → Token → List Token → ℕ
masks_of masks n [] = masks
masks_of masks n (t ∷ ts) = masks_of (if meets n t then bit_or masks t.mask else masks) n ts

-- the same of two lists
abbrev pub masks_at : (old new : List Token) → Token → ℕ
masks_at old new n = masks_of (masks_of 0 n old) n new

-- The networks that gain in one, as large as they can be. One of which only a part gains is cut in two at the highest
-- bit that a mask of a network there has; `bits` is how many bits there are to be cut at.
unfoldable pub gains_in : (old new : List Token) → (bits : ℕ) → Token → List Token
gains_in old new zero n = by_gain (gain_of (coverage old n) (coverage new n)) n []
gains_in old new (suc bits) n =
    if bit_and (masks_at old new n) (2 ^ bits) == 0 then gains_in old new bits n
    else by_gain (gain_of (coverage old n) (coverage new n)) n
    (gains_in old new bits (without (2 ^ bits) n) ++ gains_in old new bits (with (2 ^ bits) n))

-- the networks that gain by a new list
abbrev pub gains : (old new : List Token) → List Token
gains old new = gains_in old new 32 everything
