-- How many files are made within a minute.
use Rattle.std.specs.Prelude.{ℕ, ◌+◌, ◌-◌, ◌^◌, Bool, ◌&&◌, min, nat_le, nat_lt, if◌then◌else◌}

-- when the minute began in which files are made, in milliseconds, and how many were made in it
pub record MadeValue : Type 0 where
  pub begun : ℕ
  pub count : ℕ

-- No more are made in this minute.
abbrev pub is_full : MadeValue → (now : ℕ) → Bool
is_full m now = nat_lt (now - m.begun) 60000 && nat_le 4096 m.count

-- after one more was made, in a minute that begins if the last one is over
abbrev pub made_after : MadeValue → (now : ℕ) → MadeValue
made_after m now =
    if nat_le 60000 (now - m.begun) then record { begun = now; count = 1 } else record m { count = min (m.count + 1) (2 ^ 64 - 1) }
