-- Entries of access lists that admit something else than their text looks like, and the lines that tell it.
use Rattle.std.specs.Prelude.{ℕ, zero, suc, ◌+◌, ◌-◌, ◌==◌, ◌&&◌, ◌||◌, nat_le, nat_lt, Bool, false, if◌then◌else◌, List, [], ◌∷◌, ◌++◌, bit_and}
use Rattle.std.specs.Prelude.{codes, flat_map, is_some, length, not, slice_get, true, Option, Some, None, option_and_then}
use Rattle.std.specs.Result.{result_ok}
use Rattle.std.specs.Str.{bytes_eq}
use Rattle.toml.specs.Data.{Members, no_members, member, as_str}
use Rattle.protocol.specs.Access.{Token}
use Rattle.protocol.specs.Catalog.{Station}
use Rattle.protocol.specs.Pieces.{split}
use Rattle.access_list.specs.Tokens.{is_separator, ones, token_of}
use Rattle.catalog.specs.Groups.{groups_of}
use Rattle.catalog.specs.declared.error.Step.TheVariants as step
use Rattle.catalog.specs.declared.settings.StationStep.TheVariants as station
use Rattle.config_explained.specs.Findings.{text_at}
use Rattle.config_explained.specs.Unknown.{Whose, owner_words}
use Rattle.config_explained.specs.Unknown.Whose.{TheGroup, TheServer, TheStation}
use Rattle.config_explained.specs.declared.remark.Remark.{Remark}
use Rattle.config_explained.specs.declared.remark.Remark.TheVariants.{Everybody, Nobody, Outside, Padded, Scattered}
use Rattle.config_explained.specs.declared.remark.Remarked.{Remarked}
use Rattle.config_explained.specs.declared.remark.Remarked.TheVariants.{EachEntry, OddEntries}

-- ---- one entry

-- a mask of so many leading ones, or of fewer
abbrev pub has_leading_ones : ℕ → ℕ → Bool
has_leading_ones zero mask = mask == ones zero
has_leading_ones (suc count) mask = mask == ones (suc count) || has_leading_ones count mask

-- what a network is, by whether its mask has no ones, its address is nobody's, the ones stand on the left, and no bit of
-- the address is outside the mask
abbrev pub remark_by : (whole nobody left within : Bool) → Option Remark
remark_by whole nobody left within =
    if whole then Some Everybody else if nobody then Some Nobody else
    if left then (if within then None else Some Outside) else Some Scattered

abbrev pub remark_of : Token → Option Remark
remark_of n =
    remark_by (n.mask == 0) ((n.address == 0) && (n.mask == ones 32)) (has_leading_ones 32 n.mask)
    (bit_and n.address n.mask == n.address)

abbrev pub is_digit : ℕ → Bool
is_digit x = nat_le 48 x && nat_le x 57

abbrev pub begins_with_digit : List ℕ → Bool
begins_with_digit [] = false
begins_with_digit (x ∷ rest) = is_digit x

-- a number of more than one digit begins with 0; a digit stands before the text if `inside`
abbrev pub has_padding : (inside : Bool) → List ℕ → Bool
has_padding inside [] = false
has_padding inside (x ∷ rest) =
    (not inside && (x == 48) && begins_with_digit rest) || has_padding (is_digit x) rest

abbrev pub or_padded : (entry : List ℕ) → Option Remark → Option Remark
or_padded entry (Some r) = Some r
or_padded entry None = if has_padding false entry then Some Padded else None

-- what an entry is that spells a network
abbrev pub remark_in : (entry : List ℕ) → Token → Option Remark
remark_in entry n = or_padded entry (remark_of n)

abbrev pub remark_words : Remark → List ℕ
remark_words Everybody = codes "everybody is admitted"
remark_words Nobody = codes "this address is nobody's"
remark_words Scattered = codes "the ones of the mask are not on the left"
remark_words Outside = codes "the bits of the address outside the mask don't count"
remark_words Padded = codes "a number that begins with 0 is decimal here, and not octal"

-- the line of an entry, if there is something to say
abbrev pub remark_line : Whose → List ℕ → Option Remark → List ℕ
remark_line o entry None = []
remark_line o entry (Some r) =
    codes "seedlinkd: access " ++ entry ++ owner_words o ++ codes ": " ++ remark_words r ++ 10 ∷ []

abbrev pub entry_remark : Whose → List ℕ → List ℕ
entry_remark o entry = remark_line o entry (option_and_then (remark_in entry) (result_ok (token_of entry)))

-- ---- all of them

-- an entry is looked at
abbrev pub is_looked_at : Remarked → List ℕ → Bool
is_looked_at EachEntry entry = true
is_looked_at OddEntries entry = not (bytes_eq entry (codes "0.0.0.0/0"))

-- its line, if it is looked at
abbrev pub remark_if : Remarked → Whose → List ℕ → List ℕ
remark_if which o entry = if is_looked_at which entry then entry_remark o entry else []

-- the lines of a list's entries
abbrev pub list_remarks : Remarked → Whose → List ℕ → List ℕ
list_remarks which o list = flat_map (remark_if which o) (split is_separator list)

abbrev pub remarks_if : Remarked → Whose → Option (List ℕ) → List ℕ
remarks_if which o None = []
remarks_if which o (Some list) = list_remarks which o list

-- the lines of a station's own list
abbrev pub station_remarks : Remarked → Members → ℕ → Station → List ℕ
station_remarks which keys place s =
    remarks_if which (TheStation (place + 1) s) (text_at keys (step.Station place station.Access))

-- those of stations from a place on
abbrev pub remarks_from : Remarked → Members → ℕ → List Station → List ℕ
remarks_from which keys place [] = []
remarks_from which keys place (s ∷ ss) = station_remarks which keys place s ++ remarks_from which keys (place + 1) ss

-- the lines of the groups
abbrev pub groups_remarks : Remarked → Members → List ℕ
groups_remarks which no_members = []
groups_remarks which (member name value rest) =
    remarks_if which (TheGroup name) (as_str value) ++ groups_remarks which rest

abbrev pub groups_remarks_if : Remarked → Option Members → List ℕ
groups_remarks_if which None = []
groups_remarks_if which (Some groups) = groups_remarks which groups

-- ---- a list that the last station alone has

-- the station at a place has a list of its own
abbrev pub has_list : Members → ℕ → Bool
has_list keys place = is_some (text_at keys (step.Station place station.Access))

-- none of the first stations has one
abbrev pub none_has_list : Members → ℕ → Bool
none_has_list keys zero = true
none_has_list keys (suc place) = if has_list keys place then false else none_has_list keys place

-- it has one, while none before it has one, nor the server
abbrev pub is_last_alone : Members → ℕ → Bool
is_last_alone keys place =
    nat_lt 0 place && not (is_some (text_at keys step.Access)) && has_list keys place && none_has_list keys place

abbrev pub alone_line : Members → ℕ → Option Station → List ℕ
alone_line keys place None = []
alone_line keys place (Some s) =
    if is_last_alone keys place
    then codes "seedlinkd: access" ++ owner_words (TheStation (place + 1) s)
    ++ codes ": it is the one list; that of all stations stands above the first [[station]]\n"
    else []

abbrev pub last_alone_line : Members → List Station → List ℕ
last_alone_line keys ss = alone_line keys (length ss - 1) (slice_get ss (length ss - 1))

-- the lines of the server's list, of the groups, of the stations' own lists, and of the last one that is alone
abbrev pub remarks_text : Remarked → Members → List Station → List ℕ
remarks_text which keys ss =
    remarks_if which TheServer (text_at keys step.Access) ++ groups_remarks_if which (groups_of keys)
    ++ remarks_from which keys 0 ss ++ last_alone_line keys ss
