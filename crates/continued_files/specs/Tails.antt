-- How records go on in a file that an earlier reader began. What stands in it behind the length that was kept, its
-- tail, may be handed again: each place of it that is left takes one record that is handed and equals its own.
use Rattle.std.specs.Prelude.{◌≡◌, ◌≢◌, ℕ, ◌+◌, ◌-◌, ◌≤◌, nat_lt, Bool, true, false, if◌then◌else◌, List}
use Rattle.std.specs.Prelude.{[], ◌∷◌, ◌++◌, replicate, slice_index_or, slice_set}
use Rattle.continued_files.specs.Places.{record_at}

-- What is left of a tail: it begins at the place `from`, and `left` says of each of its places whether it is left.
pub record TailValue : Type 0 where
  pub from : ℕ
  pub left : List Bool

-- That place is left.
abbrev pub IsLeft : TailValue → ℕ → Type 0
IsLeft t place = (t.from ≤ place) × (slice_index_or t.left (place - t.from) false ≡ true)

-- Where the tail of a file begins that has so many records, of which a state counts some. A file that has fewer than
-- the state counts is another one, or has lost some, and all of it is tail.
abbrev pub first_of : (kept count : ℕ) → ℕ
first_of kept count = if nat_lt count kept then 0 else kept

-- No place is left.
abbrev pub HasNone : TailValue → Type 0
HasNone t = (place : ℕ) → IsLeft t place → ⊥

-- all places of a file from that one on
abbrev pub all_from : (from count : ℕ) → TailValue
all_from from count = record { from = from; left = replicate (count - from) true }

-- the tail of a file with so many records, of which a state counts some
abbrev pub tail_of : (kept count : ℕ) → TailValue
tail_of kept count = all_from (first_of kept count) count

-- after a record was handed that stands at that place
abbrev pub without : TailValue → ℕ → TailValue
without t place = record t { left = slice_set t.left (place - t.from) false }

-- No place that is left has the record.
abbrev pub AreOthers : TailValue → List (List ℕ) → List ℕ → Type 0
AreOthers t rs r = (place : ℕ) → IsLeft t place → record_at rs place ≢ r

-- What becomes of a record that is handed: it stands at some place that is left, and is passed over, and that place is
-- not left any more; or it stands at none, and is added at the end of the file.
pub data Offers (t : TailValue) (rs : List (List ℕ)) (r : List ℕ) : TailValue → List (List ℕ) → Type 0 where
  Passes : (place : ℕ) → IsLeft t place → record_at rs place ≡ r → Offers t rs r (without t place) rs
  Adds : AreOthers t rs r → Offers t rs r t (rs ++ r ∷ [])

-- the first place that is left, of places from `at` on, or how many records the file has
abbrev pub first_left : (at : ℕ) → List Bool → (count : ℕ) → ℕ
first_left at [] count = count
first_left at (true ∷ left) count = at
first_left at (false ∷ left) count = first_left (at + 1) left count

-- the length that is kept of a file with so many records: what is before it doesn't come again
abbrev pub kept_length : TailValue → (count : ℕ) → ℕ
kept_length t count = first_left t.from t.left count
