-- The stations that a client named, by their places in a configuration, and what was negotiated by their settings.
-- SeedLink 3, STATION, SELECT, DATA, FETCH and TIME.
use Rattle.std.specs.Prelude.{ℕ, Bool, List, [], map, slice_get, slice_set, Option, Some, None, option_map, is_some}
use Rattle.protocol.specs.Catalog.{Config, Station, has_codes}
use Rattle.protocol.specs.History.{Action as ProtocolAction, Request}
use Rattle.protocol.specs.History.Action.{Data as DataAction, Fetch as FetchAction, Time as TimeAction}
use Rattle.protocol.specs.Session.{Choice as ProtocolChoice, Negotiated}
use Rattle.protocol.specs.Session.Negotiated.{Uni as UniNegotiated, Multi as MultiNegotiated}
use Rattle.catalog.specs.Places.{station_at}
use Rattle.sl_lines.specs.declared.actions.Action.{Action}
use Rattle.sl_lines.specs.declared.actions.Action.TheVariants.{Data, Fetch, Time}
use Rattle.session_state.specs.declared.choices.Entry.{Entry}
use Rattle.session_state.specs.declared.choices.Cursor.{Cursor}
use Rattle.session_state.specs.NamedValues.{Choice, ModeValue, start}
use Rattle.session_state.specs.NamedValues.ModeValue.{Uni, Multi}

-- the action that is asked for
abbrev pub action_value : Action → ProtocolAction
action_value (Data number begin) = DataAction number begin
action_value (Fetch number begin) = FetchAction number begin
action_value (Time begin last) = TimeAction begin last

-- a named station by its settings
abbrev pub choice_in : Config → Choice → ProtocolChoice
choice_in config c = record {
  station = station_at config.entries c.station;
  patterns = c.patterns;
  action = option_map action_value c.action;
}

-- all of them
abbrev pub choices_in : Config → List Choice → List ProtocolChoice
choices_in config cs = map (choice_in config) cs

-- what was negotiated
abbrev pub negotiated_in : Config → ModeValue → Negotiated
negotiated_in config (Uni patterns) = UniNegotiated patterns
negotiated_in config (Multi n) = MultiNegotiated (choices_in config n.choices) n.current

-- the named stations; in uni-station mode none
abbrev pub chosen_of : ModeValue → List Choice
chosen_of (Uni patterns) = []
chosen_of (Multi n) = n.choices

-- what a transfer asks of a named station, where that has an action
abbrev pub request_with : Config → Choice → Option Action → Option Request
request_with config c None = None
request_with config c (Some action) =
    Some
    (record {
      station = station_at config.entries c.station;
      patterns = c.patterns;
      action = action_value action;
      from = c.first;
    })

-- the same, by its own action
abbrev pub request_in : Config → Choice → Option Request
request_in config c = request_with config c c.action

-- The choice is of that station.
abbrev pub is_of_station : Config → Station → Choice → Bool
is_of_station config s c = has_codes s.network s.code (station_at config.entries c.station)

-- the same of an entry
abbrev pub is_entry_of_station : Config → Station → Entry → Bool
is_entry_of_station config s e = has_codes s.network s.code (station_at config.entries e.station)

-- Something is asked of the station.
abbrev pub has_action : Choice → Bool
has_action c = is_some c.action

-- the choices with the first position of the i-th replaced, where that is there
abbrev pub kept_at : ℕ → ℕ → List Choice → Option Choice → List Choice
kept_at i first cs None = cs
kept_at i first cs (Some c) = slice_set cs i (record c { first = first })

-- the same with how far the i-th request has come
abbrev pub passed_at : ℕ → Cursor → List Choice → Option Choice → List Choice
passed_at i cursor cs None = cs
passed_at i cursor cs (Some c) = slice_set cs i (record c { cursor = cursor })

-- the mode with them
abbrev pub passed_in : ModeValue → ℕ → Cursor → ModeValue
passed_in (Uni patterns) i cursor = Uni patterns
passed_in (Multi n) i cursor = Multi (record n { choices = passed_at i cursor n.choices (slice_get n.choices i) })

-- a choice with a cursor that has not moved
abbrev pub at_start : Choice → Choice
at_start c = record c { cursor = start }

-- the mode with such cursors: what it is but for how far its requests have come
abbrev pub all_at_start : ModeValue → ModeValue
all_at_start (Uni patterns) = Uni patterns
all_at_start (Multi n) = Multi (record n { choices = map at_start n.choices })

-- the mode with the first position of the i-th replaced
abbrev pub kept_in : ModeValue → ℕ → ℕ → ModeValue
kept_in (Uni patterns) i first = Uni patterns
kept_in (Multi n) i first = Multi (record n { choices = kept_at i first n.choices (slice_get n.choices i) })
