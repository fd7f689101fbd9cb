-- What the loop says of a client's negotiation.
-- The loop is this project's own.
use Rattle.std.specs.Prelude.{◌≡◌, ℕ, Bool, true, false, List, [], ◌∷◌, ◌++◌, Option, Some, None, flat_map, map}
use Rattle.std.specs.Prelude.{slice_index_or}
use Rattle.protocol.specs.Catalog.{Config, Station}
use Rattle.catalog.specs.Places.{station_at}
use Rattle.ports.specs.Decisions.{Decides}
use Rattle.ports.specs.declared.decisions.AskedCodes.{AskedCodes}
use Rattle.ports.specs.declared.decisions.Decision.{Decision}
use Rattle.ports.specs.declared.decisions.Decision.TheVariants.{Begins, NoStation, Reads}
use Rattle.ports.specs.declared.decisions.Mode.{Mode}
use Rattle.ports.specs.declared.decisions.Mode.TheVariants as mode
use Rattle.sl_lines.specs.declared.actions.Action.{Action}
use Rattle.sl_lines.specs.declared.actions.Action.TheVariants.{Data, Fetch, Time}
use Rattle.session_state.specs.declared.choices.Entry.{Entry}
use Rattle.session_state.specs.declared.news.AskedStation.{AskedStation}
use Rattle.session_state.specs.declared.news.News.{News}
use Rattle.session_state.specs.declared.news.News.TheVariants as news
use Rattle.session_state.specs.Choices.{chosen_of}
use Rattle.session_state.specs.NamedValues.{entry_of}
use Rattle.session_state.specs.NewsValues.{asked_by}
use Rattle.session_state.specs.Sessions.{SessionValue}
use Rattle.server_core.specs.ServerValues.{ServerValue, news_at}

-- the codes of a station that was asked for, for the ports
abbrev pub codes_of : AskedStation → AskedCodes
codes_of asked = record { station = asked.station; network = asked.network }

-- those of a station
abbrev pub station_codes : Station → AskedCodes
station_codes s = codes_of (asked_by s.code (Some s.network))

-- those of the station at a place
abbrev pub place_codes : Config → ℕ → AskedCodes
place_codes config place = station_codes (station_at config.entries place)

-- what is asked of a station, without numbers and times
abbrev pub mode_of : Action → Mode
mode_of (Data number begin) = mode.Data
mode_of (Fetch number begin) = mode.Fetch
mode_of (Time begin last) = mode.Time

-- what is said of a station that a client named, by what is asked of it
abbrev pub asked_said : Config → (port place : ℕ) → Option Action → List (ℕ × Decision)
asked_said config port place None = []
asked_said config port place (Some action) = (port, Reads (place_codes config place) (mode_of action)) ∷ []

abbrev pub request_said : Config → (port : ℕ) → Entry → List (ℕ × Decision)
request_said config port e = asked_said config port e.station e.action

-- what is said of all of them, in order
abbrev pub requests_said : Config → (port : ℕ) → List Entry → List (ℕ × Decision)
requests_said config port entries = flat_map (request_said config port) entries

-- what is said of the stations of a session, if there is one
abbrev pub session_said : Config → (port : ℕ) → Option SessionValue → List (ℕ × Decision)
session_said config port None = []
session_said config port (Some s) = requests_said config port (map entry_of (chosen_of s.mode))

-- what is said of a transfer of the k-th client that begins
abbrev pub begin_said : ServerValue → (port k : ℕ) → List (ℕ × Decision)
begin_said server port k =
    session_said server.config port (slice_index_or server.sessions k None) ++ (port, Begins) ∷ []

-- what is said of what the k-th client has to tell
abbrev pub news_said : ServerValue → (port k : ℕ) → Option News → List (ℕ × Decision)
news_said server port k None = []
news_said server port k (Some (news.NoStation asked)) = (port, NoStation (codes_of asked)) ∷ []
news_said server port k (Some news.Begins) = begin_said server port k

-- What is said between the two of what the k-th client has to tell: all of it, after which nothing is left, if the
-- ports listen; and else nothing, and the server is not asked.
pub data TellsNews (listening : Bool) (server server' : ServerValue) (port k : ℕ)
    (old new : Option (List (ℕ × Decision))) : Type 0 where
  all : listening ≡ true → Decides old new (news_said server' port k (news_at server k)) → news_at server' k ≡ None
      → TellsNews listening server server' port k old new
  nothing : listening ≡ false → new ≡ old → server' ≡ server → TellsNews listening server server' port k old new

-- The same after a call of the server that may have left something to tell: all that it left is said if the ports
-- listen, and else nothing.
pub record HasTold (listening : Bool) (server' : ServerValue) (port k : ℕ) (old new : Option (List (ℕ × Decision)))
    : Type 0 where
  pub between : ServerValue
  pub tells : TellsNews listening between server' port k old new
