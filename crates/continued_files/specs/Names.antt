-- Some of the files, by their names.
use Rattle.std.specs.Prelude.{Bool, List, ℕ, length, min, nat_eq, slice_range}
use Rattle.std.specs.List.{starts_with}
use Rattle.continued_files.specs.declared.names.FileNames.{FileNames}

-- The text stands in the name after so many bytes, or after all if the name has fewer.
abbrev pub has_text : (after : ℕ) → (text name : List ℕ) → Bool
has_text after text name = starts_with nat_eq (slice_range name (min after (length name)) (length name)) text

-- The file of that name is one of them.
abbrev pub has : FileNames → List ℕ → Bool
has names name = has_text names.after names.text.now name
