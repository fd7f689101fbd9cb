-- What a file tells after a record was handed to it.
use Rattle.std.specs.Prelude.{◌≡◌, ◌<◌, ℕ, List, [], ◌∷◌, ◌++◌, length}
use Rattle.continued_files.specs.Files.{Told, Tells}
use Rattle.continued_files.specs.Places.{record_at}

-- The record stood in the file, and nothing was added, or it stands at the end now.
pub data Puts (rs : List (List ℕ)) (r : List ℕ) : List (List ℕ) → Type 0 where
  Stood : (place : ℕ) → place < length rs → record_at rs place ≡ r → Puts rs r rs
  Added : Puts rs r (rs ++ r ∷ [])

abbrev pub StandsAfter : (name r : List ℕ) → Told (List (List ℕ)) → Told (List (List ℕ)) → Type 0
StandsAfter name r old new = (rs : List (List ℕ)) → Tells old name rs →
    (rs' : List (List ℕ)) × (Tells new name rs') × Puts rs r rs'
