-- Which lists name a group.
use Rattle.std.specs.Prelude.{ℕ, ◌+◌, ◌==◌, Bool, false, if◌then◌else◌, List, [], ◌∷◌, ◌++◌, map, Option, Some, None}
use Rattle.std.specs.Prelude.{codes, decimal}
use Rattle.std.specs.List.{list_any}
use Rattle.std.specs.Str.{bytes_eq}
use Rattle.toml.specs.Data.{Data, Members, no_members, member, as_str}
use Rattle.protocol.specs.Catalog.{Station}
use Rattle.protocol.specs.Pieces.{split}
use Rattle.access_list.specs.Tokens.{is_separator}
use Rattle.catalog.specs.Groups.{groups_of}
use Rattle.config_explained.specs.Lists.{list_at}
use Rattle.config_explained.specs.ShownKeys.{shown}

-- the entry that names a group
abbrev pub entry_for : List ℕ → List ℕ
entry_for name = 64 ∷ name

-- a list has an entry
abbrev pub has_entry : List ℕ → List ℕ → Bool
has_entry entry list = list_any (bytes_eq entry) (split is_separator list)

-- the same of a list that may not be there
abbrev pub has_entry_if : List ℕ → Option (List ℕ) → Bool
has_entry_if entry None = false
has_entry_if entry (Some list) = has_entry entry list

-- of how many stations from a place on the list that holds has an entry
abbrev pub naming_from : Members → List ℕ → ℕ → List Station → ℕ
naming_from keys entry place [] = 0
naming_from keys entry place (s ∷ ss) =
    if has_entry_if entry (list_at keys place) then 1 + naming_from keys entry (place + 1) ss
    else naming_from keys entry (place + 1) ss

-- of how many of all
abbrev pub naming : Members → List ℕ → List Station → ℕ
naming keys entry ss = naming_from keys entry 0 ss

-- ---- groups that no list names

-- the line of a group
abbrev pub unused_words : List ℕ → List ℕ
unused_words name = codes "seedlinkd: group " ++ map shown name ++ codes " is in the list of no station\n"

-- the same if so many stations' lists name it
abbrev pub unused_line : List ℕ → ℕ → List ℕ
unused_line name count = if count == 0 then unused_words name else []

-- the same of a group that is a text
abbrev pub unused_if : Members → List Station → List ℕ → Option (List ℕ) → List ℕ
unused_if keys ss name None = []
unused_if keys ss name (Some list) = unused_line name (naming keys (entry_for name) ss)

-- the lines of all groups
abbrev pub unused_in : Members → List Station → Members → List ℕ
unused_in keys ss no_members = []
unused_in keys ss (member name value rest) = unused_if keys ss name (as_str value) ++ unused_in keys ss rest

abbrev pub unused_by : Members → List Station → Option Members → List ℕ
unused_by keys ss None = []
unused_by keys ss (Some groups) = unused_in keys ss groups

abbrev pub unused_text : Members → List Station → List ℕ
unused_text keys ss = unused_by keys ss (groups_of keys)
