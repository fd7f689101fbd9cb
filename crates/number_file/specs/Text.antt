-- The text of a file of numbers, as it is written: for each number a table in TOML.
use Rattle.std.specs.Prelude.{ℕ, List, [], ◌∷◌, ◌++◌, codes, flat_map}
use Rattle.protocol.specs.Packet.{digits}
use Rattle.catalog.specs.Numbers.{Numbered}

-- a line with a text at a key
abbrev pub line_of : (key value : List ℕ) → List ℕ
line_of key value = key ++ codes " = " ++ 34 ∷ [] ++ value ++ 34 ∷ 10 ∷ []

-- one number
abbrev pub text_of_number : Numbered → List ℕ
text_of_number n =
    codes "[[station]]" ++ 10 ∷ [] ++ line_of (codes "network") n.network ++ line_of (codes "code") n.code
    ++ line_of (codes "next") (digits n.next)

-- all of them
abbrev pub text_of : List Numbered → List ℕ
text_of numbers = flat_map text_of_number numbers
