-- How many bytes a connection took of a feed, and which record was the last.
use Rattle.std.specs.Prelude.{◌≡◌, ℕ, ◌+◌, ◌-◌, List, ◌++◌, length, drop, nat_le, Option, Some, None}
use Rattle.std.specs.Prelude.{if◌then◌else◌}

-- Of the bytes that a connection tells the last ones, as many as were counted.
abbrev pub counted_part : ℕ → Option (List ℕ) → Option (List ℕ)
counted_part taken None = None
counted_part taken (Some bytes) =
    if nat_le taken (length bytes) then Some (drop (length bytes - taken) bytes) else None

-- A beginning of some bytes was taken, after what was taken before, and exactly that was counted.
pub record CountsBeginning (taken taken' : ℕ) (before : List ℕ) (after : Option (List ℕ)) (bytes : List ℕ) : Type 0 where
  pub done : List ℕ
  pub rest : List ℕ
  pub parts : bytes ≡ done ++ rest
  pub told : after ≡ Some (before ++ done)
  pub count : taken' ≡ taken + length done
