-- How text of others is shown in a line.
use Rattle.std.specs.Prelude.{ℕ, ◌-◌, ◌||◌, ◌&&◌, nat_lt, nat_le, if◌then◌else◌, Option, Some, None}
use Rattle.std.specs.Char.{len_utf8}

-- a character as it is shown: `?` (63) for one that controls a terminal: those below the space (C0 of ISO 6429), and
-- those from the delete to 159 (C1)
abbrev pub shown : ℕ → ℕ
shown c = if nat_lt c 32 || (nat_le 127 c && nat_le c 159) then 63 else c

-- how many bytes of a line are left after a character, if it fits
abbrev pub room_after : ℕ → ℕ → Option ℕ
room_after room c = if nat_lt room (len_utf8 c) then None else Some (room - len_utf8 c)
