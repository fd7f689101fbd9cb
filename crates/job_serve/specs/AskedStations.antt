-- Which refused stations of a client have a line.
-- The log is this project's own.
use Rattle.std.specs.Prelude.{ℕ, Bool, false, if◌then◌else◌, nat_lt}

-- It has none yet, fewer than 64 of the client's have one, and there is room to know one more.
abbrev pub is_due : (is_known : Bool) → (lines : ℕ) → (has_room : Bool) → Bool
is_due is_known lines has_room = if is_known then false else if has_room then nat_lt lines 64 else false
