-- The list that holds for a station: what it means, and how it is shown.
use Rattle.std.specs.Prelude.{ℕ, List, [], ◌∷◌, ◌++◌, flat_map, Option, Some, None, option_map, position}
use Rattle.toml.specs.Data.{Members}
use Rattle.protocol.specs.Catalog.{Config, has_codes}
use Rattle.protocol.specs.Pieces.{split}
use Rattle.access_list.specs.Tokens.{is_separator}
use Rattle.catalog.specs.Groups.{groups_of, list_meant, named_in}
use Rattle.catalog.specs.declared.error.Step.TheVariants as step
use Rattle.catalog.specs.declared.settings.StationStep.TheVariants as station
use Rattle.config_explained.specs.Findings.{text_at}
use Rattle.config_explained.specs.declared.lists.ListOwner.{ListOwner}
use Rattle.config_explained.specs.declared.lists.ListOwner.TheVariants.{TheStation, TheServer, Nobody}

-- the first text that is there
abbrev pub either : Option (List ℕ) → Option (List ℕ) → Option (List ℕ)
either None other = other
either (Some own) other = Some own

-- the text of the list that holds for the station at a place: its own, or the server's
abbrev pub list_at : Members → ℕ → Option (List ℕ)
list_at keys place = either (text_at keys (step.Station place station.Access)) (text_at keys step.Access)

-- the list that it means, with the entries of groups in the place of their names
abbrev pub meant_at : Members → ℕ → Option (List ℕ)
meant_at keys place = option_map (list_meant (groups_of keys)) (list_at keys place)

-- whose it is, by a station's own list and the server's
abbrev pub owner_by : Option (List ℕ) → Option (List ℕ) → ListOwner
owner_by (Some own) list = TheStation
owner_by None (Some list) = TheServer
owner_by None None = Nobody

-- whose the list is that holds for the station at a place
abbrev pub owner_at : Members → ℕ → ListOwner
owner_at keys place = owner_by (text_at keys (step.Station place station.Access)) (text_at keys step.Access)

-- the same of the first station with these codes, if there is one
abbrev pub list_owner : Members → Config → List ℕ → List ℕ → Option ListOwner
list_owner keys config network code =
    option_map (owner_at keys) (position (λ e. has_codes network code e.station) config.entries)

-- ---- how it is shown

-- an entry of a group with the group's name behind it, as 10.0.0.7@partners, and a space
abbrev pub entry_of_group : (name entry : List ℕ) → List ℕ
entry_of_group name [] = []
entry_of_group name (b ∷ bs) = (b ∷ bs) ++ name ++ 32 ∷ []

-- an entry and a space, or the entries of the group that it names
abbrev pub entry_shown : (entry : List ℕ) → Option (List ℕ) → List ℕ
entry_shown entry None = entry ++ 32 ∷ []
entry_shown entry (Some group) = flat_map (entry_of_group entry) (split is_separator group)

-- each entry of a list like this; without groups the list is shown as it is
abbrev pub list_shown : Option Members → List ℕ → List ℕ
list_shown None list = list
list_shown (Some groups) list =
    flat_map (λ entry. entry_shown entry (named_in groups entry)) (split is_separator list)

-- the list of the station at a place as it is shown
abbrev pub shown_at : Members → ℕ → Option (List ℕ)
shown_at keys place = option_map (list_shown (groups_of keys)) (list_at keys place)
