-- What a configuration allows at each step of its reading, in words.
use Rattle.std.specs.Prelude.{ℕ, List, Option, Some, None, codes}
use Rattle.config_explained.specs.KeyTable.{key_at, name_of, row_of}
use Rattle.config_explained.specs.declared.key.Key.{Key}
use Rattle.catalog.specs.declared.error.Step.{Step}
use Rattle.catalog.specs.declared.error.Step.TheVariants as step
use Rattle.catalog.specs.declared.settings.StationStep.TheVariants as station
use Rattle.config_explained.specs.declared.kind.ValueKind.{ValueKind}
use Rattle.config_explained.specs.declared.kind.ValueKind.TheVariants as kind

-- the words for a step that takes no key
abbrev pub words_of : Step → Option (List ℕ)
words_of (step.Station place station.Table) = Some (codes "station")
words_of (step.Station place station.Codes) = Some (codes "network and code")
words_of _ = None

-- what such a step allows
abbrev pub allowed_at : Step → List ℕ
allowed_at (step.Station place station.Table) = codes "a table"
allowed_at (step.Station place station.Codes) = codes "not those of an earlier station"
allowed_at _ = codes "TOML in UTF-8"

-- the kind of value that it wants
abbrev pub kind_at : Step → ValueKind
kind_at (step.Station place station.Table) = kind.Table
kind_at _ = kind.Nothing

-- the name of the key whose value a step takes, or the words for one that takes none
abbrev pub name_or : Option (List ℕ) → Option Key → Option (List ℕ)
name_or words None = words
name_or words (Some k) = Some (name_of k)

abbrev pub key_of : Step → Option (List ℕ)
key_of s = name_or (words_of s) (key_at s)

-- what a step allows
abbrev pub limits_or : List ℕ → Option Key → List ℕ
limits_or words None = words
limits_or words (Some k) = (row_of k).limits

abbrev pub limit_of : Step → List ℕ
limit_of s = limits_or (allowed_at s) (key_at s)

-- the kind of value that a step wants
abbrev pub kind_or : ValueKind → Option Key → ValueKind
kind_or other None = other
kind_or other (Some k) = (row_of k).kind

abbrev pub wanted_of : Step → ValueKind
wanted_of s = kind_or (kind_at s) (key_at s)
