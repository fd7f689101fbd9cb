-- The lines of a table's keys, one after the other.
use Rattle.std.proofs.Common.{◌≡◌, ℕ, ◌++◌, true, false, List, ap, if◌then◌else◌, flat_map, ◌∷◌, Bool}
use Rattle.toml.specs.Data.{Data, Members, member}
use Rattle.config_explained.specs.Unknown.{Whose, is_known, key_line, owner_lines, unknown_in}

abbrev by : Whose → List ℕ → Members → Bool → List ℕ
by o key rest known = flat_map (key_line o) (if known then unknown_in o rest else key ∷ unknown_in o rest)

-- a key that is known has no line
pub known : (o : Whose) (key : List ℕ) (value : Data) (rest : Members) → is_known o key value ≡ true
    → owner_lines o (member key value rest) ≡ owner_lines o rest
known o key value rest is = ap (by o key rest) is

-- one that is not has its line
pub unknown : (o : Whose) (key : List ℕ) (value : Data) (rest : Members) → is_known o key value ≡ false
    → owner_lines o (member key value rest) ≡ key_line o key ++ owner_lines o rest
unknown o key value rest is = ap (by o key rest) is
