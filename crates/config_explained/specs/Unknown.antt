-- The keys of a configuration that are not known, and the lines that name them.
-- The configuration's keys are this project's own. Left out: in which order the text has them.
use Rattle.std.specs.Prelude.{ℕ, zero, suc, ◌+◌, ◌-◌, ◌==◌, ◌||◌, nat_lt, Bool, if◌then◌else◌, List, [], ◌∷◌, ◌++◌}
use Rattle.std.specs.Prelude.{map, flat_map, codes}
use Rattle.std.specs.Prelude.{decimal, Option, Some, None, find, is_some}
use Rattle.std.specs.Str.{bytes_eq}
use Rattle.toml.specs.Data.{Data, Members, no_members, member, as_str}
use Rattle.protocol.specs.Catalog.{Station}
use Rattle.catalog.specs.Groups.{groups_of}
use Rattle.config_explained.specs.KeyTable.{is_key_of, name_of, row_of, server_keys, station_keys}
use Rattle.config_explained.specs.Nearest.{nearest}
use Rattle.config_explained.specs.ShownKeys.{shown}
use Rattle.config_explained.specs.Tables.{station_table}
use Rattle.config_explained.specs.declared.key.Key.{Key}
use Rattle.config_explained.specs.declared.owner.Owner.{Owner}
use Rattle.config_explained.specs.declared.owner.Owner.TheVariants as owner

-- whose keys a table has, or whose entries a list: those of the whole server, of its groups or of one of them, of an
-- option of the command line, or of a station, which is the so manieth from 1 on
pub data Whose : Type 0 where
  TheServer : Whose
  TheGroups : Whose
  TheGroup : (name : List ℕ) → Whose
  TheOption : (name : List ℕ) → Whose
  TheStation : (number : ℕ) → Station → Whose

-- the same as the code has it
abbrev pub whose : Owner → Whose
whose owner.Server = TheServer
whose owner.Groups = TheGroups
whose (owner.Group name) = TheGroup name.now
whose (owner.Option name) = TheOption name.now
whose (owner.Station number station) = TheStation number station.now.station

-- ---- which keys are known

-- the keys that the whole server, or a station, has; groups have any names
abbrev pub keys_of : Whose → List Key
keys_of TheServer = server_keys
keys_of TheGroups = []
keys_of (TheGroup name) = []
keys_of (TheOption name) = []
keys_of (TheStation number station) = station_keys

-- a key is one of them and may have that value; a group is a text
abbrev pub is_known : Whose → List ℕ → Data → Bool
is_known TheGroups key d = is_some (as_str d)
is_known o key d = is_key_of (keys_of o) key d

-- the keys of a table that are not, in its order
abbrev pub unknown_in : Whose → Members → List (List ℕ)
unknown_in o no_members = []
unknown_in o (member key value rest) = if is_known o key value then unknown_in o rest else key ∷ unknown_in o rest

-- ---- how they are named

-- the words that name whose a key is
abbrev pub owner_words : Whose → List ℕ
owner_words TheServer = []
owner_words TheGroups = codes ", groups"
owner_words (TheGroup name) = codes ", group " ++ map shown name
owner_words (TheOption name) = codes ", " ++ name
owner_words (TheStation number s) = codes ", station " ++ decimal number ++ 32 ∷ s.network ++ 32 ∷ s.code

-- the question whether another key was meant
abbrev pub question : Option (List ℕ) → List ℕ
question None = []
question (Some near) = codes "; did you mean " ++ near ++ codes "?"

-- what a key may be that is known with another value, or else that question
abbrev pub hint_by : Option Key → Option (List ℕ) → List ℕ
hint_by None near = question near
hint_by (Some k) near = codes "; it is " ++ (row_of k).limits

-- the same of those that there are
abbrev pub hint : Whose → List ℕ → List ℕ
hint TheGroups key = codes "; it is a text, an access list"
hint o key = hint_by (find (λ k. bytes_eq key (name_of k)) (keys_of o)) (nearest key (map name_of (keys_of o)))

-- the line of a key, with its end
abbrev pub key_line : Whose → List ℕ → List ℕ
key_line o key = codes "seedlinkd: unknown key " ++ map shown key ++ owner_words o ++ hint o key ++ 10 ∷ []

-- the lines of a table's keys
abbrev pub owner_lines : Whose → Members → List ℕ
owner_lines o members = flat_map (key_line o) (unknown_in o members)

-- the lines of a station's keys
abbrev pub lines_if : Whose → Option Members → List ℕ
lines_if o None = []
lines_if o (Some members) = owner_lines o members

abbrev pub station_lines : Members → ℕ → Station → List ℕ
station_lines keys place s = lines_if (TheStation (place + 1) s) (station_table keys place)

-- the lines of the keys of stations from a place on
abbrev pub stations_from : Members → ℕ → List Station → List ℕ
stations_from keys place [] = []
stations_from keys place (s ∷ ss) = station_lines keys place s ++ stations_from keys (place + 1) ss

-- the lines of all keys that are not known
abbrev pub unknown_text : Members → List Station → List ℕ
unknown_text keys ss =
    owner_lines TheServer keys ++ lines_if TheGroups (groups_of keys) ++ stations_from keys 0 ss

-- ---- at most so many

-- how many lines end in a text
abbrev pub line_ends : List ℕ → ℕ
line_ends [] = 0
line_ends (b ∷ text) = if b == 10 then line_ends text + 1 else line_ends text

-- its first so many lines
abbrev pub first_lines : ℕ → List ℕ → List ℕ
first_lines n [] = []
first_lines zero (b ∷ text) = []
first_lines (suc n) (b ∷ text) = b ∷ first_lines (if b == 10 then n else suc n) text

-- the line that says how many more keys are not known
abbrev pub more_line : ℕ → List ℕ
more_line count = codes "seedlinkd: more unknown keys: " ++ decimal count ++ 10 ∷ []

-- the first 64 lines, and how many more there are, if there are more
abbrev pub named : List ℕ → List ℕ
named text =
    if line_ends text - 64 == 0 then text else first_lines 64 text ++ more_line (line_ends text - 64)
