-- A number of a record by which it is looked for. Two records may have one number: it only says where to look.
use Rattle.std.specs.Prelude.{ℕ, ◌+◌, ◌*◌, ◌/◌, ◌%◌, ◌^◌, List, [], ◌∷◌, length}
use Rattle.std.specs.Int.{from_le_bytes, w64}
use Rattle.std.specs.Simd.{first_chunks}

-- after eight bytes more
unfoldable pub hash_step : (hash : ℕ) → (word : List ℕ) → ℕ
hash_step hash word = (((hash * 1099511628211) % 2 ^ 64) + from_le_bytes w64 word) % 2 ^ 64

abbrev pub hash_from : (hash : ℕ) → List (List ℕ) → ℕ
hash_from hash [] = hash
hash_from hash (word ∷ words) = hash_from (hash_step hash word) words

abbrev pub hash_of : List ℕ → ℕ
hash_of bytes = hash_from 14695981039346656037 (first_chunks 8 (length bytes / 8) bytes)
