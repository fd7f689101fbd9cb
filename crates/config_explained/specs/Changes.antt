-- What a new configuration changes, and for whom: the lines of `view OLD NEW`. They are this project's own.
use Rattle.std.specs.Prelude.{ℕ, ◌+◌, Bool, true, false, List, [], ◌∷◌, ◌++◌, flat_map, map, codes}
use Rattle.std.specs.Prelude.{decimal, position, Option, Some, None, option_and_then, if◌then◌else◌, ◌==◌}
use Rattle.std.specs.Str.{bytes_eq}
use Rattle.toml.specs.Data.{Members, no_members, member, as_str}
use Rattle.protocol.specs.Access.{Token}
use Rattle.protocol.specs.Catalog.{Config, Station, has_codes, is_same_but_for_access, stations_of}
use Rattle.protocol.specs.Reason.{name_of, number_of}
use Rattle.protocol.specs.declared.reason.Reason.{Reason}
use Rattle.protocol.specs.declared.reason.Reason.TheVariants.{Different}
use Rattle.catalog.specs.Groups.{groups_of, named_in}
use Rattle.config_explained.specs.Coverage.{admits_all}
use Rattle.config_explained.specs.Gains.{everything, gains}
use Rattle.config_explained.specs.Holders.{words_of}
use Rattle.config_explained.specs.Lists.{list_at, meant_at}
use Rattle.config_explained.specs.Naming.{entry_for, naming}
use Rattle.config_explained.specs.NetworkTexts.{network_text}
use Rattle.config_explained.specs.Opened.{networks_of}

-- ---- who may use a station

-- by the list that holds, if there is one
abbrev pub admitted_by : Option (List ℕ) → List Token
admitted_by None = everything ∷ []
admitted_by (Some list) = networks_of list

-- by its place; nobody may use a station that is not there
abbrev pub admitted : Members → Option ℕ → List Token
admitted keys None = []
admitted keys (Some place) = admitted_by (meant_at keys place)

-- everybody may
abbrev pub is_everybody : List Token → Bool
is_everybody networks = admits_all networks everything

-- ---- what changes of a station, or of a group

-- its name
abbrev pub station_name : Station → List ℕ
station_name s = s.network ++ 95 ∷ s.code

-- a line of a name, with its end
abbrev pub change_line : List ℕ → List ℕ → List ℕ
change_line name words = name ++ words ++ 10 ∷ []

-- a line for a network
abbrev pub network_line : List ℕ → List ℕ → Token → List ℕ
network_line name verb n = change_line name (verb ++ network_text n)

-- those who may still use it, after everybody could
abbrev pub closing_words : List Token → List ℕ
closing_words [] = codes " closes to everybody"
closing_words (n ∷ ns) = codes " closes to everybody but" ++ words_of (map network_text (n ∷ ns))

-- by whether everybody could use it and can
abbrev pub admission_by : (could can : Bool) → (name : List ℕ) → (old new : List Token) → List ℕ
admission_by true true name old new = []
admission_by true false name old new = change_line name (closing_words (gains [] new))
admission_by false true name old new = change_line name (codes " opens to everybody")
admission_by false false name old new =
    flat_map (network_line name (codes " gains ")) (gains old new)
    ++ flat_map (network_line name (codes " loses ")) (gains new old)

-- who may use it that could not, and who can't any more
unfoldable pub admission_lines : (name : List ℕ) → (old new : List Token) → List ℕ
admission_lines name old new = admission_by (is_everybody old) (is_everybody new) name old new

-- ---- what changes of all

-- the place of a station in another configuration
abbrev pub place_in : Config → Station → Option ℕ
place_in config s = position (λ e. has_codes s.network s.code e.station) config.entries

-- two lists are the same text, or none holds in either
abbrev pub is_same_text : Option (List ℕ) → Option (List ℕ) → Bool
is_same_text None None = true
is_same_text (Some list) (Some other) = bytes_eq list other
is_same_text _ _ = false

-- the same text holds for a station in both: what changes for it are groups alone, and is told of these
abbrev pub has_same_list : Members → Members → ℕ → ℕ → Bool
has_same_list keys keys' place other = is_same_text (list_at keys place) (list_at keys' other)

-- what changes of a station that both have
abbrev pub kept_lines : Members → Members → ℕ → ℕ → Station → List ℕ
kept_lines keys keys' place other s =
    if has_same_list keys keys' place other then []
    else admission_lines (station_name s) (admitted keys (Some place)) (admitted keys' (Some other))

-- a station that the old configuration has, by its place in the new one
abbrev pub old_lines : Members → Members → ℕ → Station → Option ℕ → List ℕ
old_lines keys keys' place s None =
    change_line (station_name s) (codes " is gone")
    ++ admission_lines (station_name s) (admitted keys (Some place)) []
old_lines keys keys' place s (Some other) = kept_lines keys keys' place other s

-- a station that the new configuration has, by its place in the old one
abbrev pub new_lines : Members → ℕ → Station → Option ℕ → List ℕ
new_lines keys' place s None =
    change_line (station_name s) (codes " is new")
    ++ admission_lines (station_name s) [] (admitted keys' (Some place))
new_lines keys' place s (Some other) = []

-- those of stations from a place on
abbrev pub olds_from : Members → Members → Config → ℕ → List Station → List ℕ
olds_from keys keys' new place [] = []
olds_from keys keys' new place (s ∷ ss) =
    old_lines keys keys' place s (place_in new s) ++ olds_from keys keys' new (place + 1) ss

abbrev pub news_from : Members → Config → ℕ → List Station → List ℕ
news_from keys' old place [] = []
news_from keys' old place (s ∷ ss) = new_lines keys' place s (place_in old s) ++ news_from keys' old (place + 1) ss

-- ---- what changes of groups

-- how many stations there are
abbrev pub so_many_stations : ℕ → List ℕ
so_many_stations count = if count == 1 then codes "1 station" else decimal count ++ codes " stations"

-- lines of a group, and in the list of how many stations it is
abbrev pub with_count : (entry : List ℕ) → (count : ℕ) → (lines : List ℕ) → List ℕ
with_count entry count [] = []
with_count entry count (b ∷ bs) =
    (b ∷ bs) ++ change_line entry (codes " is in the list of " ++ so_many_stations count)

-- what changes of a group of both, by its texts there
abbrev pub group_lines : Members → List Station → List ℕ → Option (List ℕ) → Option (List ℕ) → List ℕ
group_lines keys' ss name (Some old) (Some new) =
    with_count (entry_for name) (naming keys' (entry_for name) ss)
    (admission_lines (entry_for name) (networks_of old) (networks_of new))
group_lines keys' ss name _ _ = []

-- the text of the group that an entry names, if there is one
abbrev pub group_at : Members → List ℕ → Option (List ℕ)
group_at keys entry = option_and_then (λ groups. named_in groups entry) (groups_of keys)

-- what changes of groups of the old configuration
abbrev pub groups_in : Members → List Station → Members → List ℕ
groups_in keys' ss no_members = []
groups_in keys' ss (member name value rest) =
    group_lines keys' ss name (as_str value) (group_at keys' (entry_for name)) ++ groups_in keys' ss rest

abbrev pub groups_by : Members → List Station → Option Members → List ℕ
groups_by keys' ss None = []
groups_by keys' ss (Some groups) = groups_in keys' ss groups

-- the line that says why a running server refuses it
unfoldable pub reason_line : Reason → List ℕ
reason_line r = codes "a running server refuses this: " ++ decimal (number_of r) ++ 32 ∷ name_of r ++ 10 ∷ []

-- it is refused if more than access lists differs
abbrev pub refusal_line : (is_same : Bool) → List ℕ
refusal_line true = []
refusal_line false = reason_line Different

-- the lines, or the one that says that there are none
abbrev pub or_nothing : List ℕ → List ℕ
or_nothing [] = codes "nothing changes\n"
or_nothing (b ∷ bs) = b ∷ bs

-- what changes if a server that runs one configuration is given another
abbrev pub changes_text : Members → Members → Config → Config → List ℕ
changes_text keys keys' old new =
    or_nothing (groups_by keys' (stations_of new) (groups_of keys) ++ olds_from keys keys' new 0 (stations_of old)
    ++ news_from keys' old 0 (stations_of new) ++ refusal_line (is_same_but_for_access old new))
