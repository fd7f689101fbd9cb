-- Servers by their places, one after the other.
use Rattle.std.specs.Prelude.{ℕ, ◌+◌, ◌-◌, Bool, nat_le, if◌then◌else◌}

-- no server comes after the place
abbrev pub is_last_place : (place count : ℕ) → Bool
is_last_place place count = nat_le (count - place) 1

-- the next place, and after the last the first
abbrev pub place_after : (place count : ℕ) → ℕ
place_after place count = if is_last_place place count then 0 else place + 1
