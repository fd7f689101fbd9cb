-- When it is told how many records have no place in an archive.
use Rattle.std.specs.Prelude.{ℕ, ◌-◌, Bool, true, ◌&&◌, nat_le, nat_lt, if◌then◌else◌, List, [], ◌∷◌}
use Rattle.std.specs.Prelude.{Option, Some, None}
use Rattle.job_read.specs.Notices.{NoticeValue}
use Rattle.job_read.specs.Notices.NoticeValue.{Unplaced}

-- how many were told of, and when last, in milliseconds
pub record CountValue : Type 0 where
  pub told : ℕ
  pub at : Option ℕ

-- nothing was told yet, or an hour has passed since
abbrev pub has_passed : Option ℕ → (now : ℕ) → Bool
has_passed None now = true
has_passed (Some at) now = nat_le 3600000 (now - at)

-- There are more than were told of, and it is time to tell it.
abbrev pub is_due : CountValue → (count now : ℕ) → Bool
is_due c count now = nat_lt c.told count && has_passed c.at now

abbrev pub after_count : CountValue → (count now : ℕ) → CountValue
after_count c count now = if is_due c count now then record { told = count; at = Some now } else c

abbrev pub count_told : CountValue → (count now : ℕ) → List NoticeValue
count_told c count now = if is_due c count now then Unplaced count ∷ [] else []
