-- What a server over ports has done, whose configuration is read again from a file.
use Rattle.std.specs.Prelude.{List, Option, None}
use Rattle.protocol.specs.Catalog.{Config}
use Rattle.ports.specs.Calls.{Call}
use Rattle.serving.specs.declared.timetable.Timetable.{Timetable}
use Rattle.serving.specs.Served.{Served, Ended}
use Rattle.incidents.specs.declared.incident.Incident.{Incident}

-- It made all its turns. What the file held is not told.
abbrev pub ServedByFile : Timetable → Config → Option (List Call) → Option (List Call) → Type 0
ServedByFile t config calls calls' = Served {F = Incident} t config calls calls' None None

-- It gave up.
abbrev pub EndedByFile : Timetable → Config → Option (List Call) → Type 0
EndedByFile t config calls = Ended {F = Incident} t config calls None None
