-- Readers that go on one after the other in one file, each of them stopped anywhere.
--
-- The servers number the records of the file. Nothing is said of the order in which they hand them. The law over these
-- runs has the premises that stand at the steps:
--   - the servers hand the same record under the same number;
--   - since a reader began, and since numbers went back, each number is handed at most once, and none that its state
--     does not ask for;
--   - a state asks for no number that was handed before it was kept;
--   - what was synced stays, and of what was not a beginning, or the file has fewer records than the state counts;
--   - a file that was found to have fewer records than its state counts has fewer until a state is kept.
use Rattle.std.specs.Prelude.{◌≡◌, ◌⊎◌, ℕ, ◌<◌, ◌≤◌, Bool, true, List, [], ◌∷◌, ◌++◌, length, take}
use Rattle.continued_files.specs.Places.{record_at}
use Rattle.continued_files.specs.Tails.{IsLeft, Offers, TailValue, all_from, kept_length, tail_of}

-- what the servers hand under each number
abbrev pub Series : Type 0
Series = ℕ → List ℕ

-- No two of them are the same.
abbrev pub AreDistinct : Series → Type 0
AreDistinct s = (m n : ℕ) → s m ≡ s n → m ≡ n

-- some numbers, by a test
abbrev pub Numbers : Type 0
Numbers = ℕ → Bool

abbrev pub IsOf : Numbers → ℕ → Type 0
IsOf ns n = ns n ≡ true

-- All of the one are of the other.
abbrev pub AreOf : Numbers → Numbers → Type 0
AreOf ns ms = (n : ℕ) → IsOf ns n → IsOf ms n

-- A moment: the file, how many of its records were synced, what the state counts of it and which numbers it asks for,
-- what is left of the reader's tail, which numbers it may still be handed, those that it was handed since it began or
-- kept its state, and those that had been handed when a state was kept.
pub record Moment : Type 0 where
  pub file : List (List ℕ)
  pub synced : ℕ
  pub kept : ℕ
  pub asked : Numbers
  pub tail : TailValue
  pub comes : Numbers
  pub handed : List ℕ
  pub counted : List ℕ

-- before the first reader, which asks for these numbers
abbrev pub first_moment : Numbers → Moment
first_moment numbers =
    record {
      file = [];
      synced = 0;
      kept = 0;
      asked = numbers;
      tail = tail_of 0 0;
      comes = numbers;
      handed = [];
      counted = [];
    }

-- The record stands at that place of the file.
abbrev pub StandsAt : List (List ℕ) → List ℕ → ℕ → Type 0
StandsAt file r place = (place < length file) × (record_at file place ≡ r)

-- Each place of the file has the record of a number, and no two have that of one.
pub record HasNumbers (s : Series) (file : List (List ℕ)) (number : ℕ → ℕ) : Type 0 where
  pub known : (i : ℕ) → i < length file → record_at file i ≡ s (number i)
  pub apart : (i j : ℕ) → i < length file → j < length file → number i ≡ number j → i ≡ j

-- the moment after a record was handed
abbrev pub after_record : Moment → (number : ℕ) → Numbers → TailValue → List (List ℕ) → Moment
after_record m number comes tail file =
    record m { file = file; tail = tail; comes = comes; handed = number ∷ m.handed }

-- the moment after a sync
abbrev pub after_sync : Moment → Moment
after_sync m = record m { synced = length m.file }

-- the moment after a state was kept that counts so many records and asks for these numbers
abbrev pub after_keep : Moment → ℕ → Numbers → Moment
after_keep m kept asked = record m { kept = kept; asked = asked; handed = []; counted = m.handed ++ m.counted }

-- the moment at which the next reader begins with what is left of the file, and with the state
abbrev pub after_stop : Moment → (left : ℕ) → Moment
after_stop m left =
    record m { file = take left m.file; tail = tail_of m.kept left; comes = m.asked; handed = [] }

-- the moment at which a reader finds another file
abbrev pub after_loss : Moment → List (List ℕ) → Numbers → Moment
after_loss m file comes =
    record m {
      file = file;
      synced = 0;
      tail = tail_of m.kept (length file);
      comes = comes;
      handed = [];
      counted = [];
    }

-- the moment after numbers went back: the reader may be handed any of these anew
abbrev pub after_return : Moment → Numbers → Moment
after_return m comes = record m { tail = all_from 0 (length m.file); comes = comes }

-- the moment after a tail was made anew
abbrev pub after_renewal : Moment → TailValue → Moment
after_renewal m tail = record m { tail = tail }

-- Each place that was left is left, but for those of records that are not handed any more, and others may be: places of
-- the file, and of records that are the same for two numbers none that the state counts.
pub record Renews (s : Series) (m : Moment) (tail : TailValue) : Type 0 where
  pub more : (place : ℕ) → IsLeft m.tail place
      → IsLeft tail place ⊎ ((n : ℕ) → record_at m.file place ≡ s n → IsOf m.comes n → ⊥)
  pub end : (place : ℕ) → IsLeft tail place → place < length m.file
  pub kept : AreDistinct s ⊎ ((place : ℕ) → IsLeft tail place → m.kept ≤ place)

-- what happens next
pub data Step (s : Series) (m : Moment) : Moment → Type 0 where
  -- A record is handed that may still be handed, and its number is not handed again.
  Hands : (number : ℕ) (comes : Numbers) (tail : TailValue) (file : List (List ℕ)) → IsOf m.comes number
      → AreOf comes m.comes → (IsOf comes number → ⊥) → (length m.file < m.kept → length file < m.kept)
      → Offers m.tail m.file (s number) tail file → Step s m (after_record m number comes tail file)
  -- What stands in the file is synced.
  Syncs : Step s m (after_sync m)
  -- A state is kept, once all is synced.
  Keeps : (kept : ℕ) (asked : Numbers) → m.synced ≡ length m.file → kept ≤ kept_length m.tail (length m.file)
      → AreOf asked m.comes → Step s m (after_keep m kept asked)
  -- The reader or its machine stops.
  Stops : (left : ℕ) → m.synced ≤ left → left ≤ length m.file → Step s m (after_stop m left)
  -- The file is another one, in which no number stands twice, and has fewer records than the state counts, or the state
  -- counts none.
  Loses : (file : List (List ℕ)) (number : ℕ → ℕ) (comes : Numbers) → HasNumbers s file number
      → (length file < m.kept) ⊎ (m.kept ≡ 0) → Step s m (after_loss m file comes)
  -- A server's numbers go back. Of records that are the same for two numbers no state counts any.
  Returns : (comes : Numbers) → AreDistinct s ⊎ (m.kept ≡ 0) → Step s m (after_return m comes)
  -- The tail is made anew, as of a file that was forgotten, or what is left of it is given up.
  Forgets : (tail : TailValue) → Renews s m tail → Step s m (after_renewal m tail)

-- what may come of all that
pub data Reaches (s : Series) : Moment → Type 0 where
  Begins : (numbers : Numbers) → Reaches s (first_moment numbers)
  Goes : {m m' : Moment} → Reaches s m → Step s m m' → Reaches s m'

-- The number is among them.
abbrev pub IsAmong : ℕ → List ℕ → Type 0
IsAmong n [] = ⊥
IsAmong n (x ∷ xs) = (x ≡ n) ⊎ IsAmong n xs

-- Each place of the file has the record of a number of its own, and nothing else stands there. All that the reader was
-- handed stand there, and so do those that any reader was handed before it kept its state, among those that are synced.
-- Where no two numbers have the same record, no two places have the same.
pub record HoldsOnce (s : Series) (m : Moment) : Type 0 where
  pub number : ℕ → ℕ
  pub numbers : HasNumbers s m.file number
  pub once : AreDistinct s
      → (i j : ℕ) → i < length m.file → j < length m.file → record_at m.file i ≡ record_at m.file j → i ≡ j
  pub handed : (n : ℕ) → IsAmong n m.handed → (place : ℕ) × StandsAt m.file (s n) place
  pub counted : (n : ℕ) → IsAmong n m.counted
      → (place : ℕ) × (place < m.synced) × StandsAt m.file (s n) place
