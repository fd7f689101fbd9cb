-- Records of a file by their places.
use Rattle.std.specs.Prelude.{ℕ, List, [], slice_index_or}

-- the record at a place, from 0 on
abbrev pub record_at : List (List ℕ) → ℕ → List ℕ
record_at rs place = slice_index_or rs place []
