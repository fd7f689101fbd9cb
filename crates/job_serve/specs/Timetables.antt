-- When a server does what, by the words of its command line.
use Rattle.std.specs.Prelude.{is_some}
use Rattle.serving.specs.declared.timetable.Timetable.{Timetable}
use Rattle.command_line.specs.declared.job.ServeOptions.{ServeOptions}

-- what the words of `serve` say of it
abbrev pub timetable_of : ServeOptions → Timetable
timetable_of words =
    record { turns = words.turns; reread = words.reread; report = words.report; keep = is_some words.numbers }
