-- The numbers that a server keeps, and those that a text of a configuration begins with.
use Rattle.std.specs.Prelude.{◌≡◌, ℕ, List, Ok}
use Rattle.toml.specs.Parse.{parse_document}
use Rattle.catalog.specs.Numbers.{Numbered}
use Rattle.number_file.specs.Reading.{numbers_read}
use Rattle.number_file.specs.Tables.{with_nexts}
use Rattle.number_file.specs.Text.{text_of}

-- A table has the numbers that are given, in place of those that it had, and a text is that table's, which is read as it.
abbrev pub IsText : (old : List Numbered) → (nexts : List ℕ) → (new : List Numbered) → (text : List ℕ) → Type 0
IsText old nexts new text =
    (new ≡ with_nexts old nexts) × (text ≡ text_of new) × (numbers_read (parse_document text) ≡ Ok new)
