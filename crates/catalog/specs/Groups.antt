-- Lists that a configuration gives a name, and what an access list means by `@` and such a name: the entries of that
-- list stand in its place. The names are this project's own. Left out: names within a named list, which stay what they
-- are, so that such a list is refused where it is used.
use Rattle.std.specs.Prelude.{ℕ, ◌==◌, if◌then◌else◌, List, [], ◌∷◌, ◌++◌, flat_map}
use Rattle.std.specs.Prelude.{Option, Some, None, option_and_then}
use Rattle.std.specs.Prelude.{codes, option_map}
use Rattle.std.specs.Str.{bytes_eq}
use Rattle.toml.specs.View.{table_view}
use Rattle.toml.specs.Data.{Members, no_members, member, get_member, as_str, as_table}
use Rattle.protocol.specs.Pieces.{split}
use Rattle.access_list.specs.Tokens.{is_separator}
use Rattle.catalog.specs.declared.groups.Groups.{Groups}

-- the table `groups`; without one there are no groups
abbrev pub groups_of : Members → Option Members
groups_of members = option_and_then as_table (get_member (codes "groups") members)

-- the same of the code's groups
abbrev pub groups_value : Groups → Option Members
groups_value groups = option_map (λ table. table_view table.now) groups.table

-- the list of that name, if there is one that is a text
abbrev pub group_in : Members → List ℕ → Option (List ℕ)
group_in no_members name = None
group_in (member key value rest) name = if bytes_eq key name then as_str value else group_in rest name

-- a text, or else another one
abbrev pub text_or : Option (List ℕ) → List ℕ → List ℕ
text_or None other = other
text_or (Some text) other = text

-- the list that an entry names: `@`, and the name of a group
abbrev pub named_in : Members → List ℕ → Option (List ℕ)
named_in groups [] = None
named_in groups (b ∷ name) = if b == 64 then group_in groups name else None

-- what stands for an entry: the list that it names, or the entry itself where it names none
abbrev pub entry_meant : Members → List ℕ → List ℕ
entry_meant groups entry = text_or (named_in groups entry) entry

-- the same with a space behind it
abbrev pub entry_apart : Members → List ℕ → List ℕ
entry_apart groups entry = entry_meant groups entry ++ 32 ∷ []

-- the text that an access list means, each entry by itself; without groups it means what it says
abbrev pub list_meant : Option Members → List ℕ → List ℕ
list_meant None list = list
list_meant (Some groups) list = flat_map (entry_apart groups) (split is_separator list)
