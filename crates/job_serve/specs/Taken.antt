-- What an operator keeps, and what it takes of a text of its configuration.
use Rattle.std.specs.Prelude.{◌≡◌, ℕ, List, Option, Some, None, Ok}
use Rattle.std.specs.Global.{Box}
use Rattle.toml.specs.Parse.{parse_document}
use Rattle.protocol.specs.Catalog.{Config}
use Rattle.catalog.specs.Numbers.{config_by}
use Rattle.catalog.specs.Reading.{config_read}
use Rattle.job_serve.specs.KeptNumbers.{IsText}
use Rattle.job_serve.specs.declared.numbers.NumberFile.{NumberFile}

-- a configuration whose stations begin with what a file of numbers said when the server began, if there is one
abbrev pub begun_by : Option (Box NumberFile) → Config → Config
begun_by None config = config
begun_by (Some file) config = config_by file.value.first.items config

-- It is what a text spells, with those numbers.
abbrev pub IsReadFrom : (text : List ℕ) → Option (Box NumberFile) → Config → Type 0
IsReadFrom text numbers config =
    (read : Config) × (config_read (parse_document text) ≡ Ok read) × (config ≡ begun_by numbers read)

-- The file's text has the numbers that were given; without a file nothing is kept.
abbrev pub HasKept : Option (Box NumberFile) → (nexts : List ℕ) → Option (Box NumberFile) → Type 0
HasKept None nexts after = after ≡ None
HasKept (Some file) nexts None = ⊥
HasKept (Some file) nexts (Some after) =
    IsText file.value.table nexts after.value.table after.value.text.items
