-- What a device in memory has room for.
use Rattle.std.specs.Prelude.{ℕ, ◌^◌, ◌-◌, List, [], ◌∷◌}

-- for how many bytes there is room at its next call, by the numbers that are left of its list
abbrev pub room_in : List ℕ → ℕ
room_in [] = 2 ^ 64 - 1
room_in (room ∷ rooms) = room
