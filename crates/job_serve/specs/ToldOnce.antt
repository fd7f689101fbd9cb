-- Lines that are told again only after an hour.
use Rattle.std.specs.Prelude.{ℕ, ◌-◌, nat_le, Bool, true, not, ◌||◌, List, Option, Some, None}
use Rattle.std.specs.Str.{bytes_eq}

-- an hour has passed since something was told, in milliseconds; where a clock could not be read it has
abbrev pub is_hour_past : Option ℕ → Option ℕ → Bool
is_hour_past (Some told) (Some now) = nat_le 3600000 (now - told)
is_hour_past _ _ = true

-- it is another line than the one that was told last, or an hour has passed since
abbrev pub is_due : (last : List ℕ) → (told : Option ℕ) → (line : List ℕ) → (now : Option ℕ) → Bool
is_due last told line now = not (bytes_eq last line) || is_hour_past told now
