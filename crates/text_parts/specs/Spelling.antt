-- Short texts as numbers. This project's own.
use Rattle.std.specs.Prelude.{ℕ, ◌<◌, List, [], ◌∷◌, length}
use Rattle.std.specs.Int.{from_be_bytes, w64}
use Rattle.std.specs.List.{slice_index}

-- the bytes of a text of up to seven bytes, filled up with zeros, and its length
abbrev pub digits : List ℕ → List ℕ
digits text =
    slice_index text 0 ∷ slice_index text 1 ∷ slice_index text 2 ∷ slice_index text 3 ∷ slice_index text 4
    ∷ slice_index text 5 ∷ slice_index text 6 ∷ length text ∷ []

-- the number that has these digits to the base 256
abbrev pub spelled : List ℕ → ℕ
spelled text = from_be_bytes w64 (digits text)

-- All are bytes.
abbrev pub AreBytes : List ℕ → Type 0
AreBytes text = (i : ℕ) → slice_index text i < 256
