-- How often something is done. Periods are this project's own. Left out: how time passes.
use Rattle.std.specs.Prelude.{ℕ, zero, suc, ◌/◌, ◌%◌, ◌==◌, nat_le, Bool, true, false}
use Rattle.text_parts.specs.declared.period.Period.{Period}
use Rattle.text_parts.specs.declared.period.Period.TheVariants.{Seconds, Turns}

-- it goes by time
abbrev pub is_by_time : Period → Bool
is_by_time (Turns n) = false
is_by_time (Seconds n) = true

-- so many turns are a multiple of it
abbrev pub is_due_after : Period → ℕ → Bool
is_due_after (Turns zero) done = false
is_due_after (Turns (suc n)) done = done % suc n == 0
is_due_after (Seconds n) done = false

-- so many milliseconds are as long as it
abbrev pub has_passed : Period → ℕ → Bool
has_passed (Turns n) milliseconds = false
has_passed (Seconds n) milliseconds = nat_le n (milliseconds / 1000)
