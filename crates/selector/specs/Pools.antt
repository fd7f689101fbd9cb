-- The lists of a pool, which lie one after the other in one list of patterns.
-- SeedLink 3, SELECT.
use Rattle.std.specs.Prelude.{◌≡◌, ℕ, ◌+◌, ◌<◌, ◌≤◌, All, List, [], ◌∷◌, length, drop, sum_by, take, slice_index_or}
use Rattle.protocol.specs.Pattern.{Pattern}

-- the lists, by how many patterns each has
abbrev pub cut : List Pattern → List ℕ → List (List Pattern)
cut patterns [] = []
cut patterns (n ∷ ns) = take n patterns ∷ cut (drop n patterns) ns

-- how many patterns that is
abbrev pub total : List ℕ → ℕ
total [] = 0
total (n ∷ ns) = n + total ns

-- where each list starts, of which the first starts at that place
abbrev pub starts_from : ℕ → List ℕ → List ℕ
starts_from at [] = []
starts_from at (n ∷ ns) = at ∷ starts_from (at + n) ns

-- the list with that number
abbrev pub list_at : List (List Pattern) → ℕ → List Pattern
list_at lists i = slice_index_or lists i []

-- how many patterns all lists have together
abbrev pub together : List (List Pattern) → ℕ
together lists = sum_by length lists

-- There is room for one pattern more in that list.
pub record HasRoom (lists : List (List Pattern)) (i : ℕ) : Type 0 where
  pub own : length (list_at lists i) < 64
  pub all : together lists < 1024

-- So many patterns of 255 lists are there, and each list starts behind the one before it.
pub record IsLaidOut (patterns : List Pattern) (starts counts : List ℕ) : Type 0 where
  pub lists : length counts ≡ 255
  pub start : starts ≡ starts_from 0 counts
  pub count : total counts ≡ length patterns
  pub each : All (λ n. n ≤ 64) counts
  pub most : length patterns ≤ 1024
