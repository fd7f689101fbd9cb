-- Bytes as a dialogue spells them. The spelling is this project's own.
use Rattle.std.specs.Prelude.{ℕ, ◌/◌, ◌%◌, ◌==◌, ◌&&◌, nat_le, if◌then◌else◌, List, [], ◌∷◌, ◌++◌, slice_index, codes}
use Rattle.std.specs.List.{flat_map}
use Rattle.hex.specs.Hex.{lower_digits}

-- a byte as two hexadecimal digits, in lower case
abbrev pub byte_digits : ℕ → List ℕ
byte_digits b = slice_index lower_digits (b / 16) ∷ slice_index lower_digits (b % 16) ∷ []

-- a carriage return is `\r`, a line feed `\n` and a backslash `\\`; any other byte that does not print is `\x` and two
-- digits
unfoldable pub spelled_byte : ℕ → List ℕ
spelled_byte b =
    if b == 13 then codes "\\r"
    else if b == 10 then codes "\\n"
    else if b == 92 then codes "\\\\"
    else if nat_le 32 b && nat_le b 126 then b ∷ [] else codes "\\x" ++ byte_digits b

-- bytes, one after the other
abbrev pub spelled : List ℕ → List ℕ
spelled bytes = flat_map spelled_byte bytes
