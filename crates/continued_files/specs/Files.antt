-- What files of records tell: the records of each by its name, and how many of them are sure to stay.
use Rattle.std.specs.Prelude.{◌≡◌, ◌≢◌, ℕ, List, [], ◌∷◌, ◌++◌, length, Option, Some}

-- what is told of each name
abbrev pub Told : Type 0 → Type 0
Told A = List ℕ → Option A

-- These records stand in the file of that name.
abbrev pub Tells : Told (List (List ℕ)) → List ℕ → List (List ℕ) → Type 0
Tells told name rs = told name ≡ Some rs

-- The same is told of each name.
abbrev pub TellsSame : {A : Type 0} → Told A → Told A → Type 0
TellsSame old new = (name : List ℕ) → new name ≡ old name

-- The same is told of each other name.
abbrev pub TellsOthers : List ℕ → Told (List (List ℕ)) → Told (List (List ℕ)) → Type 0
TellsOthers name old new = (other : List ℕ) → other ≢ name → new other ≡ old other

-- One record more stands at the end of that file, and the others are as they were.
pub record AddsTo (name r : List ℕ) (old new : Told (List (List ℕ))) : Type 0 where
  pub here : (rs : List (List ℕ)) → Tells old name rs → Tells new name (rs ++ r ∷ [])
  pub others : TellsOthers name old new

-- All records that stand in a file are sure to stay.
abbrev pub MakesSafe : Told (List (List ℕ)) → Told ℕ → Type 0
MakesSafe told safe = (name : List ℕ) (rs : List (List ℕ)) → Tells told name rs → safe name ≡ Some (length rs)
