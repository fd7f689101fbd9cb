-- When the next state of a reader is kept.
-- States are this project's own. Left out: what stands in one.
use Rattle.std.specs.Prelude.{ℕ, Bool, nat_lt, if◌then◌else◌}
use Rattle.job_read.specs.declared.keep_time.KeepTime.{KeepTime}
use Rattle.job_read.specs.declared.keep_time.KeepTime.TheVariants.{Now, AfterRead, AfterSilence}

-- so many milliseconds after the last one, and where the rest of a packet is to come or not
abbrev pub keep_time : (passed : ℕ) → (is_owed : Bool) → KeepTime
keep_time passed is_owed = if nat_lt passed 1000 then (if is_owed then AfterRead else AfterSilence) else Now
