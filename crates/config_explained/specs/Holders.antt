-- Who may use each station, by the texts of a configuration's access lists. Seedlink's `access`; the lines are this
-- project's own.
use Rattle.std.specs.Prelude.{ℕ, ◌+◌, List, [], ◌∷◌, ◌++◌, Option, Some, None, codes}
use Rattle.std.specs.Prelude.{option_map, position, slice_get}
use Rattle.toml.specs.Data.{Members}
use Rattle.protocol.specs.Catalog.{Config, Entry, Station, has_codes}
use Rattle.protocol.specs.Pieces.{split, without_empty}
use Rattle.access_list.specs.Tokens.{is_separator}
use Rattle.config_explained.specs.Lists.{shown_at}

-- the entries of a list: what stands between its separators
abbrev pub entries_of : List ℕ → List (List ℕ)
entries_of list = without_empty (split is_separator list)

-- words, each after a space
abbrev pub words_of : List (List ℕ) → List ℕ
words_of [] = []
words_of (w ∷ ws) = 32 ∷ w ++ words_of ws

-- entries, or nobody
abbrev pub or_nobody : List (List ℕ) → List ℕ
or_nobody [] = words_of (codes "nobody" ∷ [])
or_nobody (e ∷ es) = words_of (e ∷ es)

-- whom a list admits; `-` where there is none
abbrev pub list_words : Option (List ℕ) → List ℕ
list_words None = words_of (codes "-" ∷ [])
list_words (Some list) = or_nobody (entries_of list)

-- the line of a station, with its end
abbrev pub holder_line : Station → Option (List ℕ) → List ℕ
holder_line s list = s.network ++ 32 ∷ s.code ++ list_words list ++ 10 ∷ []

-- the lines of stations from a place on
abbrev pub holders_from : Members → ℕ → List Station → List ℕ
holders_from keys place [] = []
holders_from keys place (s ∷ ss) = holder_line s (shown_at keys place) ++ holders_from keys (place + 1) ss

-- the lines of all stations
abbrev pub holders_text : Members → List Station → List ℕ
holders_text keys ss = holders_from keys 0 ss

-- the line of the station at a place, if there is one
abbrev pub holder_at : Members → ℕ → Option Station → List ℕ
holder_at keys place None = []
holder_at keys place (Some s) = holder_line s (shown_at keys place)

-- of a place that was found, or not
abbrev pub holder_found : Members → List Entry → Option ℕ → Option (List ℕ)
holder_found keys es None = None
holder_found keys es (Some place) = Some (holder_at keys place (option_map (λ e. e.station) (slice_get es place)))

-- the line of the first station with these codes, if there is one
abbrev pub holder_text : Members → Config → List ℕ → List ℕ → Option (List ℕ)
holder_text keys config network code =
    holder_found keys config.entries (position (λ e. has_codes network code e.station) config.entries)
