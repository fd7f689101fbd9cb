-- The stations that an address sees, a line each. SeedLink 3, CAT; that LF ends a line is this project's own.
use Rattle.std.specs.Prelude.{ℕ, List, [], ◌∷◌, ◌++◌}
use Rattle.protocol.specs.Catalog.{Station, View}
use Rattle.protocol.specs.Record.{padded}

-- the line of a station, with its end
abbrev pub seen_line : Station → List ℕ
seen_line s = padded 2 s.network ++ 32 ∷ padded 5 s.code ++ 32 ∷ s.description ++ 10 ∷ []

-- the lines of stations
abbrev pub lines_of : List Station → List ℕ
lines_of [] = []
lines_of (s ∷ ss) = seen_line s ++ lines_of ss

-- the lines of a view
abbrev pub seen_text : View → List ℕ
seen_text v = lines_of v.stations
