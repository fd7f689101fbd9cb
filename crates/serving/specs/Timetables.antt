-- When a server stops between its turns. Timetables are this project's own. Left out: how time passes.
use Rattle.std.specs.Prelude.{ℕ, ◌-◌, ◌^◌, ◌||◌, ◌&&◌, nat_lt, Bool, true, false, if◌then◌else◌, Option, Some, None}
use Rattle.std.specs.Prelude.{unwrap_or}
use Rattle.text_parts.specs.Periods.{is_by_time as is_period_of_time, is_due_after}
use Rattle.text_parts.specs.declared.period.Period.{Period}
use Rattle.text_parts.specs.declared.period.Period.TheVariants.{Seconds, Turns}
use Rattle.serving.specs.declared.between.Due.{Due}
use Rattle.serving.specs.declared.timetable.Timetable.{Timetable}

-- after how many turns a run ends
abbrev pub turns_of : Timetable → ℕ
turns_of t = unwrap_or t.turns (2 ^ 64 - 1)

-- something is due after so many turns
abbrev pub is_due : Option Period → ℕ → Bool
is_due None done = false
is_due (Some period) done = is_due_after period done

-- it is done by turns
abbrev pub is_by_turns : Option Period → Bool
is_by_turns None = false
is_by_turns (Some (Turns n)) = true
is_by_turns (Some (Seconds n)) = false

-- or by time
abbrev pub is_by_time : Option Period → Bool
is_by_time None = false
is_by_time (Some period) = is_period_of_time period

-- something goes by time
abbrev pub is_timed : Timetable → Bool
is_timed t = is_by_time t.reread || is_by_time t.report

-- Numbers are kept, and the level of some station rose since they were.
abbrev pub is_keep_due : Timetable → (kept raises : ℕ) → Bool
is_keep_due t kept raises = t.keep && nat_lt kept raises

-- nothing is due by time
abbrev pub nothing_due : Due
nothing_due = record { reread = false; report = false }

-- what is due after so many turns, where by time that is due
abbrev pub due_after : Timetable → ℕ → Due → Due
due_after t done by_time = record {
  reread = is_due t.reread done || by_time.reread;
  report = is_due t.report done || by_time.report;
}

-- how many failed turns in a row still count after a stop: they are counted anew once the configuration was asked for
abbrev pub failures_kept : Bool → ℕ → ℕ
failures_kept reread failures = if reread then 0 else failures
