-- How the calls of files in which readers go on follow the law of their runs: each is a step of each file.
use Rattle.std.specs.Prelude.{◌≡◌, ◌≢◌, ◌<◌, ◌+◌, ℕ, List, length, Bool, false, true, Option, Some, String}
use Rattle.std.specs.BTreeMap.{BTreeMap}
use Rattle.continued_files.specs.Files.{Told, Tells}
use Rattle.continued_files.specs.Known.{IsCounted, IsIndexed, kept_by, known_at, length_of, tail_before}
use Rattle.continued_files.specs.Lengths.{LengthValue}
use Rattle.continued_files.specs.Places.{record_at}
use Rattle.continued_files.specs.Runs.{AreDistinct, AreOf, IsOf, Moment, Numbers, Series, Step, after_record}
use Rattle.continued_files.specs.Runs.{after_renewal, after_return, after_sync}
use Rattle.continued_files.specs.Tails.{IsLeft, TailValue}
use Rattle.continued_files.specs.declared.known.Known.{Known}
use Rattle.continued_files.specs.declared.known.Unnamed.{Unnamed}
use Rattle.continued_files.specs.declared.known.Unnamed.TheVariants.{Tail}

-- files, by what they tell, what is known of them, and what a state names
pub record FilesValue : Type 0 where
  pub records : Told (List (List ℕ))
  pub safe : Told ℕ
  pub known : Told Known
  pub named : Told ℕ
  pub unnamed : Unnamed

abbrev pub files_value : {Y : Type 0} → Told (List (List ℕ)) → Told ℕ → BTreeMap (String Y) Known → List LengthValue
    → Unnamed → FilesValue
files_value records safe all named unnamed =
    record {
      records = records;
      safe = safe;
      known = known_at all;
      named = length_of named;
      unnamed = unnamed;
    }

-- the tail of a file with so many records to which one is handed
abbrev pub tail_at : FilesValue → List ℕ → ℕ → TailValue
tail_at v name count = tail_before (v.known name) (kept_by (v.named name) v.unnamed count) count

-- The file of that name is in that moment.
pub record IsAt (v : FilesValue) (name : List ℕ) (m : Moment) : Type 0 where
  pub file : Tells v.records name m.file
  pub synced : v.safe name ≡ Some m.synced
  pub indexed : IsIndexed (v.known name) m.file
  pub counted : IsCounted (v.known name) m.file
  pub tail : tail_at v name (length m.file) ≡ m.tail

-- The record of that number may be handed, and of it and what may be handed before these numbers may be handed after
-- it. A file that was found to be shorter than its state counts stays so.
pub record MayCome (s : Series) (m : Moment) (r : List ℕ) (number : ℕ) (comes : Numbers) : Type 0 where
  pub record_of : r ≡ s number
  pub may : IsOf m.comes number
  pub fewer : AreOf comes m.comes
  pub once : IsOf comes number → ⊥
  pub short : length m.file < m.kept → length m.file + 1 < m.kept

-- A record is handed to the file of that name: a step of it, and nothing of the others.
pub record HandsStep (old new : FilesValue) (name r : List ℕ) : Type 0 where
  pub here : (s : Series) (m : Moment) (number : ℕ) (comes : Numbers) → IsAt old name m
      → MayCome s m r number comes → (tail : TailValue) × (file : List (List ℕ))
      × Step s m (after_record m number comes tail file) × IsAt new name (after_record m number comes tail file)
  pub others : (m : Moment) (other : List ℕ) → other ≢ name → IsAt old other m → IsAt new other m

-- All files are synced, and then perhaps tails are made anew.
abbrev pub SyncsStep : FilesValue → FilesValue → Type 0
SyncsStep old new = (s : Series) (m : Moment) (name : List ℕ) → AreDistinct s → IsAt old name m
    → (tail : TailValue) × Step s (after_sync m) (after_renewal (after_sync m) tail)
    × IsAt new name (after_renewal (after_sync m) tail)

-- Nothing comes of what is left of a tail.
abbrev pub ComesNoMore : Series → Moment → Type 0
ComesNoMore s m = (place n : ℕ) → IsLeft m.tail place → record_at m.file place ≡ s n → IsOf m.comes n → ⊥

-- What is left of the tails of some files is given up, of which nothing comes any more.
abbrev pub GivesUpStep : FilesValue → FilesValue → (List ℕ → Bool) → Type 0
GivesUpStep old new of = (s : Series) (m : Moment) (name : List ℕ) → AreDistinct s → IsAt old name m
    → (of name ≡ true → ComesNoMore s m) → (tail : TailValue) × Step s m (after_renewal m tail)
    × IsAt new name (after_renewal m tail)

-- A server's numbers go back, so that the records of some files may come anew: a step of each of these, and nothing of
-- the others, if a file that is not named is tail.
pub record ReturnsStep (old new : FilesValue) (of : List ℕ → Bool) : Type 0 where
  pub here : (m : Moment) (name : List ℕ) (comes : Numbers) → of name ≡ true → IsAt old name m
      → IsAt new name (after_return m comes)
  pub others : old.unnamed ≡ Tail → (m : Moment) (name : List ℕ) → of name ≡ false → IsAt old name m
      → IsAt new name m
