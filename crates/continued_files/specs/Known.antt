-- What is known of files in which readers go on.
use Rattle.std.specs.Prelude.{◌≡◌, ◌≤◌, ◌≢◌, ◌<◌, ℕ, List, [], ◌∷◌, length, Bool}
use Rattle.std.specs.Prelude.{false, true, Option, None, Some, nat_lt}
use Rattle.std.specs.Prelude.{if◌then◌else◌, String}
use Rattle.std.specs.BTreeMap.{BTreeMap, get_by_text}
use Rattle.std.specs.Str.{bytes_eq}
use Rattle.continued_files.specs.Indexes.{Indexes}
use Rattle.continued_files.specs.Lengths.{LengthValue}
use Rattle.continued_files.specs.Tails.{HasNone, IsLeft, TailValue, kept_length, tail_of}
use Rattle.continued_files.specs.declared.known.Known.{Known}
use Rattle.continued_files.specs.declared.known.Unnamed.{Unnamed}
use Rattle.continued_files.specs.declared.known.Unnamed.TheVariants.{Kept, Tail}

-- the length that is named of a file
abbrev pub length_of : List LengthValue → List ℕ → Option ℕ
length_of [] name = None
length_of (l ∷ ls) name = if bytes_eq l.name name then Some l.count else length_of ls name

-- how many records of a file don't come again, as it is told of one that is known, or named by the state
abbrev pub length_told : Option Known → Option ℕ → Option ℕ
length_told None named = named
length_told (Some k) named = Some (kept_length k.tail.tail k.count)

-- how many records of a file with so many don't come again, by the state
abbrev pub kept_by : Option ℕ → Unnamed → (count : ℕ) → ℕ
kept_by (Some kept) unnamed count = kept
kept_by None Kept count = count
kept_by None Tail count = 0

-- The tail of a file with so many records before one is handed to it: what is left of the one that is known. If none
-- is, the state says where it begins. If the file had more records, it is another one, and all of it is tail.
abbrev pub tail_before : Option Known → (kept count : ℕ) → TailValue
tail_before None kept count = tail_of kept count
tail_before (Some k) kept count = if nat_lt count k.count then tail_of k.count count else k.tail.tail

-- If the file has as many records as are known of it, its tail is known.
abbrev pub IsIndexed : Option Known → List (List ℕ) → Type 0
IsIndexed None rs = Unit {0}
IsIndexed (Some k) rs = k.count ≤ length rs → Indexes k.tail rs

-- It has no more records than the file.
abbrev pub IsCounted : Option Known → List (List ℕ) → Type 0
IsCounted None rs = Unit {0}
IsCounted (Some k) rs = k.count ≤ length rs

-- What was left of its tail is given up.
pub record GivesUp (old new : Known) : Type 0 where
  pub tail : new.tail.tail ≡ record { from = old.count; left = [] }
  pub count : new.count ≡ old.count

-- Its tail is over: nothing of it was left.
pub record EndsTail (old new : Known) : Type 0 where
  pub given : GivesUp old new
  pub none : HasNone old.tail.tail

-- The same is known of a file, or its tail is over.
pub data Settles : Option Known → Option Known → Type 0 where
  Stays : (known : Option Known) → Settles known known
  Ends : (old new : Known) → EndsTail old new → Settles (Some old) (Some new)

-- What was left of the tail of a file is given up, if that is so, and else the same is known of it.
abbrev pub GivesUpIf : Bool → Option Known → Option Known → Type 0
GivesUpIf b None new = new ≡ None
GivesUpIf false (Some k) new = new ≡ Some k
GivesUpIf true (Some k) new = (k' : Known) × (new ≡ Some k') × GivesUp k k'

-- This tail of the file is known.
abbrev pub Knows : Option Known → List (List ℕ) → TailValue → Type 0
Knows None rs t = ⊥
Knows (Some k) rs t = (k.count ≤ length rs) × (k.tail.tail ≡ t) × Indexes k.tail rs

module _ {Y : Type 0} where
  -- what is known of the file of that name
  abbrev pub known_at : BTreeMap (String Y) Known → List ℕ → Option Known
  known_at all name = get_by_text all name

  -- The same is known of each other file.
  abbrev pub KnowsOthers : List ℕ → BTreeMap (String Y) Known → BTreeMap (String Y) Known → Type 0
  KnowsOthers name old new = (other : List ℕ) → other ≢ name → get_by_text new other ≡ get_by_text old other

  -- Of each file what is known fits records that it fitted.
  abbrev pub KeepsIndexes : BTreeMap (String Y) Known → BTreeMap (String Y) Known → Type 0
  KeepsIndexes old new = (name : List ℕ) (rs : List (List ℕ)) → IsIndexed (get_by_text old name) rs
      → IsCounted (get_by_text old name) rs
      → IsIndexed (get_by_text new name) rs × IsCounted (get_by_text new name) rs

  -- Of each file each place is left that was left.
  abbrev pub KeepsTails : BTreeMap (String Y) Known → (List ℕ → ℕ → ℕ) → BTreeMap (String Y) Known
      → (List ℕ → ℕ → ℕ) → Type 0
  KeepsTails old kept new kept' = (name : List ℕ) (count place : ℕ) → place < count
      → IsLeft (tail_before (get_by_text old name) (kept name count) count) place
      → IsLeft (tail_before (get_by_text new name) (kept' name count) count) place

  -- What is left of the tails of some files is given up.
  abbrev pub GivesUpOf : (List ℕ → Bool) → BTreeMap (String Y) Known → BTreeMap (String Y) Known → Type 0
  GivesUpOf of old new = (name : List ℕ) → GivesUpIf (of name) (get_by_text old name) (get_by_text new name)
