-- What is known of the tail of a file.
use Rattle.std.specs.Prelude.{◌≤◌, ◌<◌, ◌+◌, ℕ, List, length, slice_index_or}
use Rattle.std.specs.List.{Contains}
use Rattle.continued_files.specs.Hashes.{hash_of}
use Rattle.continued_files.specs.Tails.{TailValue}
use Rattle.continued_files.specs.Places.{record_at}
use Rattle.continued_files.specs.declared.tail.Entry.{Entry}

-- what is left of it, and its records in the order of their numbers
pub record IndexValue : Type 0 where
  pub tail : TailValue
  pub order : List Entry

abbrev pub entry_of : List (List ℕ) → ℕ → Entry
entry_of rs place = record { hash = hash_of (record_at rs place); place = place }

-- Its places are places of the file, and there is an entry of each.
pub record Indexes (t : IndexValue) (rs : List (List ℕ)) : Type 0 where
  pub end : t.tail.from + length t.tail.left ≤ length rs
  pub entries : (place : ℕ) → t.tail.from ≤ place → place < t.tail.from + length t.tail.left
      → Contains t.order (entry_of rs place)

-- The entries before that place have lower numbers, and the others do not.
pub record IsFirst (order : List Entry) (hash first : ℕ) : Type 0 where
  pub below : (k : ℕ) (d : Entry) → k < first → (slice_index_or order k d).hash < hash
  pub above : (k : ℕ) (d : Entry) → first ≤ k → k < length order → hash ≤ (slice_index_or order k d).hash
