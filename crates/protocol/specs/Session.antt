-- Negotiation: what each command answers and changes, by the stations that the client sees. SeedLink 3, the dialogue in
-- uni-station and multi-station mode. Left out: the texts of other servers (the replies to HELLO and CAT, and which
-- station uni-station mode takes, are this project's).
use Rattle.std.specs.Prelude.{ℕ, ◌+◌, nat_lt, ◌&&◌, if◌then◌else◌, List, [], ◌∷◌, ◌++◌, length, sum_by, Option, Some}
use Rattle.std.specs.Prelude.{None, codes, slice_get, slice_set, filter_map}
use Rattle.protocol.specs.Catalog.{Station, View, find_station, has_codes}
use Rattle.protocol.specs.Lines.{line_end}
use Rattle.protocol.specs.Pattern.{Pattern, pattern_of}
use Rattle.protocol.specs.Command.{Command}
use Rattle.protocol.specs.Command.Command.{Blank, Hello, Cat, Bye, End, Station as StationCommand, Select, Data, Fetch}
use Rattle.protocol.specs.Command.Command.{Time, Bad}
use Rattle.protocol.specs.History.{Action}
use Rattle.protocol.specs.History.Action.{Data as DataAction, Fetch as FetchAction, Time as TimeAction}

-- a station that a client named, with its patterns and the action that it asked for
pub record Choice : Type 0 where
  pub station : Station
  pub patterns : List Pattern
  pub action : Option Action

-- what a client has negotiated
pub data Negotiated : Type 0 where
  -- one station, the first that it sees
  Uni : (patterns : List Pattern) → Negotiated
  -- the stations that it named, and the place of the current one
  Multi : (choices : List Choice) → (current : Option ℕ) → Negotiated

-- a transfer that is asked for: a request for each station, but for its first position
pub record Wish : Type 0 where
  pub station : Station
  pub patterns : List Pattern
  pub action : Action

-- what a command leads to, beside the reply
pub data Outcome : Type 0 where
  Stays : (reply : List ℕ) → Negotiated → Outcome
  Lists : Outcome
  Starts : List Wish → Outcome
  Ends : Outcome

-- what answers a command that was obeyed
abbrev pub ok_line : List ℕ
ok_line = codes "OK" ++ line_end

-- what answers a command that was not
abbrev pub error_line : List ℕ
error_line = codes "ERROR" ++ line_end

-- what answers HELLO
abbrev pub greeting : View → List ℕ
greeting v = codes "SeedLink v3.0 (station access)" ++ line_end ++ v.title ++ line_end

-- the place of the station among those named, from place i on
abbrev pub position_of : Station → List Choice → ℕ → Option ℕ
position_of s [] i = None
position_of s (c ∷ cs) i = if has_codes s.network s.code c.station then Some i else position_of s cs (i + 1)

-- how many stations a client may name
abbrev pub max_choices : ℕ
max_choices = 255

-- how many patterns each may have
abbrev pub max_patterns : ℕ
max_patterns = 64

-- how many patterns all of them may have together
abbrev pub max_together : ℕ
max_together = 1024

-- how many they have
abbrev pub together : List Choice → ℕ
together cs = sum_by (λ c. length c.patterns) cs

-- the station as the current one: at its place, or named anew where there is room
abbrev pub choose_known : Station → List Choice → Option ℕ → Outcome
choose_known s cs (Some i) = Stays ok_line (Multi cs (Some i))
choose_known s cs None =
    if nat_lt (length cs) max_choices then Stays ok_line
    (Multi (cs ++ record { station = s; patterns = []; action = None } ∷ []) (Some (length cs)))
    else Stays error_line (Multi cs None)

-- STATION: the station, where it is visible, becomes the current one
abbrev pub choose_station : List Choice → Option Station → Outcome
choose_station cs None = Stays error_line (Multi cs None)
choose_station cs (Some s) = choose_known s cs (position_of s cs 0)

-- the stations named so far; in uni-station mode none
abbrev pub choices_of : Negotiated → List Choice
choices_of (Uni ps) = []
choices_of (Multi cs current) = cs

-- SELECT with a pattern: the patterns with one more, or None where the text is no pattern or there is no room, while
-- the client has so many in all
abbrev pub with_pattern : (all : ℕ) → List Pattern → Option Pattern → Option (List Pattern)
with_pattern all ps None = None
with_pattern all ps (Some p) =
    if nat_lt (length ps) max_patterns && nat_lt all max_together then Some (ps ++ p ∷ []) else None

-- SELECT: without a pattern there are none from then on
abbrev pub selected : (all : ℕ) → List Pattern → Option (List ℕ) → Option (List Pattern)
selected all ps None = Some []
selected all ps (Some text) = with_pattern all ps (pattern_of text)

-- the change of the current choice, where there is one
abbrev pub current_choice : List Choice → Option ℕ → Option Choice
current_choice cs None = None
current_choice cs (Some i) = slice_get cs i

-- the named stations with the current one changed
abbrev pub put : List Choice → Option ℕ → Choice → List Choice
put cs None c = cs
put cs (Some i) c = slice_set cs i c

-- in uni-station mode, with the new patterns where there are some
abbrev pub select_uni : List Pattern → Option (List Pattern) → Outcome
select_uni ps None = Stays error_line (Uni ps)
select_uni ps (Some new) = Stays ok_line (Uni new)

-- in multi-station mode, of the current station, with the new patterns where there are some
abbrev pub select_in : List Choice → Option ℕ → Choice → Option (List Pattern) → Outcome
select_in cs current c None = Stays error_line (Multi cs current)
select_in cs current c (Some new) = Stays ok_line (Multi (put cs current (record c { patterns = new })) current)

-- in multi-station mode, where a station is current
abbrev pub select_multi : List Choice → Option ℕ → Option (List ℕ) → Option Choice → Outcome
select_multi cs current text None = Stays error_line (Multi cs current)
select_multi cs current text (Some c) = select_in cs current c (selected (together cs) c.patterns text)

-- SELECT, in either mode
abbrev pub select : Negotiated → Option (List ℕ) → Outcome
select (Uni ps) text = select_uni ps (selected (length ps) ps text)
select (Multi cs current) text = select_multi cs current text (current_choice cs current)

-- DATA, FETCH and TIME
abbrev pub act_uni : List Pattern → Action → List Station → Outcome
act_uni ps action [] = Stays error_line (Uni ps)
act_uni ps action (s ∷ ss) = Starts (record { station = s; patterns = ps; action = action } ∷ [])

-- in multi-station mode, of the current station
abbrev pub act_multi : List Choice → Option ℕ → Action → Option Choice → Outcome
act_multi cs current action None = Stays error_line (Multi cs current)
act_multi cs current action (Some c) =
    Stays ok_line (Multi (put cs current (record c { action = Some action })) current)

-- in either mode
abbrev pub act : View → Negotiated → Action → Outcome
act v (Uni ps) action = act_uni ps action v.stations
act v (Multi cs current) action = act_multi cs current action (current_choice cs current)

-- what a named station is asked for, where it has an action
abbrev pub wish_with : Choice → Option Action → Option Wish
wish_with c None = None
wish_with c (Some action) = Some (record { station = c.station; patterns = c.patterns; action = action })

-- the same, by its action
abbrev pub wish_of : Choice → Option Wish
wish_of c = wish_with c c.action

-- END starts the transfer of what is asked for, where that is anything.
abbrev pub end_with : List Choice → Option ℕ → List Wish → Outcome
end_with cs current [] = Stays error_line (Multi cs current)
end_with cs current (w ∷ ws) = Starts (w ∷ ws)

-- END, in either mode
abbrev pub end_multi : Negotiated → Outcome
end_multi (Uni ps) = Stays error_line (Uni ps)
end_multi (Multi cs current) = end_with cs current (filter_map wish_of cs)

-- the outcome of a command
abbrev pub outcome_of : View → Negotiated → Command → Outcome
outcome_of v n Blank = Stays [] n
outcome_of v n Hello = Stays (greeting v) n
outcome_of v n Cat = Lists
outcome_of v n Bye = Ends
outcome_of v n End = end_multi n
outcome_of v n (StationCommand code network) = choose_station (choices_of n) (find_station v code network)
outcome_of v n (Select text) = select n text
outcome_of v n (Data number begin) = act v n (DataAction number begin)
outcome_of v n (Fetch number begin) = act v n (FetchAction number begin)
outcome_of v n (Time begin last) = act v n (TimeAction begin last)
outcome_of v n Bad = Stays error_line n
