-- When it is shown how far a job is: at most ten times a second.
use Rattle.std.specs.Prelude.{ℕ, ◌-◌, ◌*◌, ◌/◌, ◌^◌, Bool, true, if◌then◌else◌, max, min, nat_le, Option, Some, None}

-- How many bytes are read, and when that was shown last, in milliseconds.
pub record MeterValue : Type 0 where
  pub bytes : ℕ
  pub shown : Option ℕ

-- It is time to show it: it was not shown yet, or not for a tenth of a second.
abbrev pub is_time : Option ℕ → ℕ → Bool
is_time None now = true
is_time (Some last) now = nat_le 100 (now - last)

-- How many hundredths of so many bytes are read.
abbrev pub share : (bytes size : ℕ) → ℕ
share bytes size = if nat_le size bytes then 100 else bytes * 100 / size

-- How many records a second so many are in so many milliseconds.
abbrev pub rate : (records milliseconds : ℕ) → ℕ
rate records milliseconds = min (records * 1000) (2 ^ 64 - 1) / max milliseconds 1
