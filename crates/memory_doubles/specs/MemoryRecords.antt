-- What files of records in memory tell.
use Rattle.std.specs.Prelude.{ℕ, List, [], ◌∷◌, if◌then◌else◌}
use Rattle.std.specs.Str.{bytes_eq}
use Rattle.memory_doubles.specs.declared.memory_files.NamedRecord.{NamedRecord}

-- a record, and the name of its file
pub record NamedValue : Type 0 where
  pub name : List ℕ
  pub bytes : List ℕ

abbrev pub named : NamedRecord → NamedValue
named r = record { name = r.name.items; bytes = r.bytes }

-- those that stand in the file of a name
abbrev pub records_of : List NamedValue → List ℕ → List (List ℕ)
records_of [] name = []
records_of (r ∷ rs) name = if bytes_eq r.name name then r.bytes ∷ records_of rs name else records_of rs name
