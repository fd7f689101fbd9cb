-- Keys as they are shown.
use Rattle.std.specs.Prelude.{ℕ, nat_lt, ◌||◌, if◌then◌else◌}

-- a byte as it is shown
abbrev pub shown : ℕ → ℕ
shown b = if nat_lt b 33 || nat_lt 126 b then 63 else b
