-- When wants that a server refused are asked again, and whether a reader tells what it meets.
use Rattle.std.specs.Prelude.{ℕ, ◌-◌, Bool, ◌||◌, if◌then◌else◌}

-- for how many milliseconds a connection lasts on which a want was refused: an hour, or a minute if the server is not
-- the first of the list
abbrev pub renewal_of : (is_first : Bool) → ℕ
renewal_of is_first = if is_first then 3600000 else 60000

-- how many of them are left, if that was at a moment
abbrev pub left_after : (is_first : Bool) → (refused now : ℕ) → ℕ
left_after is_first refused now = renewal_of is_first - (now - refused)

-- An archive, a state, another try, no lines of packets or explanations are asked for.
abbrev pub is_told : (has_archive has_state is_retried is_quiet is_verbose : Bool) → Bool
is_told has_archive has_state is_retried is_quiet is_verbose =
    has_archive || has_state || is_retried || is_quiet || is_verbose
