-- What is told of a station of which all records are asked for from a number on, if the server begins with another one.
use Rattle.std.specs.Prelude.{ℕ, ◌==◌, ◌||◌, if◌then◌else◌, Option, Some, None}
use Rattle.job_read.specs.declared.begins.OtherBegin.{OtherBegin}

-- At the first packet of the station: both numbers, if they differ. With 0 all that is held is meant.
abbrev pub begin_told : (asked first : ℕ) → Option OtherBegin
begin_told asked first = if asked == 0 || asked == first then None else Some (record { asked = asked; first = first })
