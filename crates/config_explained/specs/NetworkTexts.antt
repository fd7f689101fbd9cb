-- The text of a network, as an access list may have it.
use Rattle.std.specs.Prelude.{ℕ, zero, suc, ◌/◌, ◌%◌, ◌==◌, if◌then◌else◌, List, [], ◌∷◌, ◌++◌, decimal}
use Rattle.std.specs.Prelude.{Option, Some, None}
use Rattle.protocol.specs.Access.{Token}
use Rattle.access_list.specs.Tokens.{ones}

-- four numbers joined by dots
abbrev pub pair_text : ℕ → List ℕ
pair_text n = decimal (n / 256) ++ 46 ∷ decimal (n % 256)

unfoldable pub dotted : ℕ → List ℕ
dotted n = pair_text (n / 65536) ++ 46 ∷ pair_text (n % 65536)

-- how many ones a mask has, at most so many, if all are on the left
abbrev pub leading_count : ℕ → ℕ → Option ℕ
leading_count zero mask = if mask == ones zero then Some zero else None
leading_count (suc count) mask = if mask == ones (suc count) then Some (suc count) else leading_count count mask

-- a mask by its leading ones, or by its four numbers
abbrev pub mask_by : Option ℕ → ℕ → List ℕ
mask_by (Some count) mask = decimal count
mask_by None mask = dotted mask

-- `/` and the mask; nothing if all bits count
unfoldable pub mask_text : ℕ → List ℕ
mask_text mask = if mask == ones 32 then [] else 47 ∷ mask_by (leading_count 32 mask) mask

-- `10.0.0.7`, `10.0.0.0/8` or `10.0.0.7/255.0.0.255`
unfoldable pub network_text : Token → List ℕ
network_text n = dotted n.address ++ mask_text n.mask
