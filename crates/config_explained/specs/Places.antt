-- Places in a text, by lines and columns.
use Rattle.std.specs.Prelude.{◌≡◌, ◌≢◌, ℕ, ◌+◌, ◌-◌, ◌<◌, ◌≤◌, ◌==◌, ◌||◌, Bool, nat_lt, nat_le, List, drop, length}
use Rattle.std.specs.Prelude.{slice_index}
use Rattle.std.specs.List.{count_by}
use Rattle.config_explained.specs.declared.place.TextPlace.{TextPlace}

-- LF ends a line
abbrev pub is_line_end : ℕ → Bool
is_line_end b = b == 10

-- a byte with which a character of UTF-8 begins: any but 128 to 191
abbrev pub begins_character : ℕ → Bool
begins_character b = nat_lt b 128 || nat_le 192 b

-- The place after the first bytes of a text: how many lines they end, where the last of their lines begins, and how
-- many characters begin on it.
pub record IsPlaceAfter (before : List ℕ) (p : TextPlace) : Type 0 where
  pub line : p.line ≡ count_by is_line_end before + 1
  pub column : p.column ≡ count_by begins_character (drop p.start before) + 1
  pub within : p.start ≤ length before
  pub begins : 0 < p.start → slice_index before (p.start - 1) ≡ 10
  pub same_line : (k : ℕ) → p.start ≤ k → k < length before → slice_index before k ≢ 10
