-- Files that are open, each found by its name.
use Rattle.std.specs.Prelude.{ℕ, List, Option, option_map, slice_get, string_bytes}
use Rattle.disk_files.specs.declared.open_files.NamedFile.{NamedFile}

-- the name of the file at a place, if there is one
abbrev pub name_at : List NamedFile → ℕ → Option (List ℕ)
name_at files place = option_map (λ f. string_bytes f.name) (slice_get files place)
