-- Refused records, and when a log tells of them.
-- Lines are this project's own.
use Rattle.std.specs.Prelude.{ℕ, ◌+◌, ◌-◌, ◌^◌, min, nat_le, Bool, true, if◌then◌else◌, Option, Some, None}
use Rattle.job_serve.specs.declared.refusals.RefusalsSince.{RefusalsSince}

-- an hour has passed since a time in milliseconds, or there was none
abbrev pub has_passed : Option ℕ → ℕ → Bool
has_passed None now = true
has_passed (Some told) now = nat_le 3600000 (now - told)

abbrev pub is_due : RefusalsSince → ℕ → Bool
is_due c now = has_passed c.told now

-- the count with one record more, which stays at the largest
abbrev pub one_more : ℕ → ℕ
one_more n = min (n + 1) (2 ^ 64 - 1)

-- what a line tells once one record more was refused, if one is due
abbrev pub told_count : RefusalsSince → ℕ → Option ℕ
told_count c now = if is_due c now then Some (one_more c.count) else None

-- the count after it
abbrev pub with_record : RefusalsSince → ℕ → RefusalsSince
with_record c now =
    if is_due c now then record { count = 0; told = Some now } else record c { count = one_more c.count }
