-- How much of a network sees each station, a line each.
use Rattle.std.specs.Prelude.{ℕ, ◌+◌, List, [], ◌∷◌, ◌++◌, codes, Option, Some, None}
use Rattle.toml.specs.Data.{Members}
use Rattle.protocol.specs.Access.{Token}
use Rattle.protocol.specs.Catalog.{Station}
use Rattle.config_explained.specs.Coverage.{coverage}
use Rattle.config_explained.specs.Lists.{meant_at}
use Rattle.config_explained.specs.Opened.{networks_of}
use Rattle.config_explained.specs.declared.coverage.Coverage.{Coverage}
use Rattle.config_explained.specs.declared.coverage.Coverage.TheVariants.{Whole, Part, Nothing}

-- how much of a network a list admits; all of it where there is no list
abbrev pub part_of : Option (List ℕ) → Token → Coverage
part_of None n = Whole
part_of (Some list) n = coverage (networks_of list) n

abbrev pub part_words : Coverage → List ℕ
part_words Whole = codes " all"
part_words Part = codes " some"
part_words Nothing = codes " none"

-- the line of a station, with its end
abbrev pub part_line : Station → Coverage → List ℕ
part_line s c = s.network ++ 32 ∷ s.code ++ part_words c ++ 10 ∷ []

-- the line of the station at a place
abbrev pub part_at : Members → Token → ℕ → Station → List ℕ
part_at keys n place s = part_line s (part_of (meant_at keys place) n)

-- the lines of stations from a place on
abbrev pub parts_from : Members → Token → ℕ → List Station → List ℕ
parts_from keys n place [] = []
parts_from keys n place (s ∷ ss) = part_at keys n place s ++ parts_from keys n (place + 1) ss

-- the lines of all stations
abbrev pub parts_text : Members → Token → List Station → List ℕ
parts_text keys n ss = parts_from keys n 0 ss
