-- The values of the stations that a client named, and of what was negotiated.
-- SeedLink 3, STATION, SELECT, DATA, FETCH and TIME.
use Rattle.std.specs.Prelude.{◌≡◌, ℕ, ◌<◌, ◌≤◌, Bool, true, false, List, [], ◌∷◌, length, drop, Option, None, IfSome}
use Rattle.std.specs.Prelude.{if◌then◌else◌, nat_lt, Some}
use Rattle.protocol.specs.Pattern.{Pattern}
use Rattle.selector.specs.Pools.{list_at}
use Rattle.sl_lines.specs.declared.actions.Action.{Action}
use Rattle.session_state.specs.declared.choices.Cursor.{Cursor}
use Rattle.session_state.specs.declared.choices.Entry.{Entry}

-- a named station: its place in the configuration, which of its records are wanted, what is asked of it, from which
-- arrival on, and how far the transfer has come
pub record Choice : Type 0 where
  pub station : ℕ
  pub patterns : List Pattern
  pub action : Option Action
  pub first : ℕ
  pub cursor : Cursor

-- the cursor of a transfer that has not begun
abbrev pub start : Cursor
start = record { ring_place = 0; ended = 0; seen = 0; stamp = 0 }

-- the stamp of the record at a cursor, where one was there when the ring was last looked at: while the cursor is before
-- the end that was seen
abbrev pub ahead_of : Cursor → Option ℕ
ahead_of k = if nat_lt k.ring_place k.seen then Some k.stamp else None

-- a station of which this is asked, while no transfer has begun
abbrev pub begun : ℕ → Option Action → Entry
begun station action = record { station = station; action = action; first = 0; cursor = start }

-- an entry with its patterns
abbrev pub choice_of : Entry → List Pattern → Choice
choice_of e ps = record { station = e.station; patterns = ps; action = e.action; first = e.first; cursor = e.cursor }

-- a named station without them
abbrev pub entry_of : Choice → Entry
entry_of c = record { station = c.station; action = c.action; first = c.first; cursor = c.cursor }

-- a station without a place, patterns and an action
abbrev pub blank : Choice
blank = choice_of (begun 0 None) []

-- entries with the list of patterns that stands at each one's place
abbrev pub choices_with : List Entry → List (List Pattern) → List Choice
choices_with [] lists = []
choices_with (e ∷ es) lists = choice_of e (list_at lists 0) ∷ choices_with es (drop 1 lists)

-- named stations, in the order in which they were named, and the place among them of the current one
pub record NamedValue : Type 0 where
  pub choices : List Choice
  pub current : Option ℕ

-- There is room for 255 entries, each has its list, and all other lists are empty.
pub record IsNamed (entries : List Entry) (current : Option ℕ) (lists : List (List Pattern)) (room : ℕ) : Type 0 where
  pub count : length lists ≡ 255
  pub few : length entries ≤ 255
  pub spare : 255 ≤ room
  pub within : IfSome current (λ i. i < length entries)
  pub rest : (i : ℕ) → length entries ≤ i → list_at lists i ≡ []

-- One station is there.
pub record IsAlone (n : NamedValue) : Type 0 where
  pub choice : Choice
  pub alone : n.choices ≡ choice ∷ []

-- what was negotiated
pub data ModeValue : Type 0 where
  -- one station, the first that the client sees, with these patterns
  Uni : (patterns : List Pattern) → ModeValue
  -- the stations that the client named
  Multi : NamedValue → ModeValue

-- the patterns of the first station, where there is one
abbrev pub first_patterns : List Choice → List Pattern
first_patterns [] = []
first_patterns (c ∷ cs) = c.patterns

-- the mode, whether in multi-station mode or in uni-station mode, where one station keeps the patterns
abbrev pub mode_of : (is_multi : Bool) → NamedValue → ModeValue
mode_of true n = Multi n
mode_of false n = Uni (first_patterns n.choices)
