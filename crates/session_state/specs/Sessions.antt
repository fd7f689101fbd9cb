-- A session, and the client that it is beside a configuration and a history.
use Rattle.std.specs.Prelude.{◌≡◌, ℕ, ◌+◌, ◌-◌, ◌^◌, ◌&&◌, min, nat_lt, slice_index, slice_set}
use Rattle.std.specs.Prelude.{if◌then◌else◌, Bool, true, false, List, [], length, drop, map}
use Rattle.std.specs.Prelude.{filter_map, slice_get, Option, Some, None, All}
use Rattle.std.specs.List.{before_first, position_or_len}
use Rattle.protocol.specs.Lines.{Line, is_line_end, open_after}
use Rattle.protocol.specs.Catalog.{Config, View, listing}
use Rattle.protocol.specs.History.{Arrival, first_wanted}
use Rattle.protocol.specs.Session.{choices_of, wish_of, error_line, ok_line}
use Rattle.protocol.specs.Client.{Client, State as ClientState, read_on, request_of}
use Rattle.protocol.specs.Client.State.{Negotiating as ClientNegotiating, Listing as ClientListing}
use Rattle.protocol.specs.Client.State.{Transfer as ClientTransfer, Ending as ClientEnding}
use Rattle.catalog.specs.Orders.{Fits}
use Rattle.catalog.specs.Places.{station_at, view_in, Seen}
use Rattle.sl_lines.specs.declared.actions.Action.{Action}
use Rattle.session_state.specs.NamedValues.{Choice, ModeValue}
use Rattle.session_state.specs.declared.negotiation.Change.{Change}
use Rattle.session_state.specs.declared.negotiation.Change.TheVariants.{Done, Refused, Starts}
use Rattle.session_state.specs.declared.session.State.{State}
use Rattle.session_state.specs.declared.session.State.TheVariants.{Negotiating, Listing, Starting, Transfer, Ending}
use Rattle.session_state.specs.declared.session.Settled.{Settled}
use Rattle.session_state.specs.declared.session.Settled.TheVariants.{Rest, Start}
use Rattle.session_state.specs.declared.news.News.{News}
use Rattle.session_state.specs.Choices.{action_value, negotiated_in, chosen_of, request_in, all_at_start}
use Rattle.session_state.specs.NewsValues.{news_on}

-- so many more packets of the i-th request, at most 2^64 - 1
abbrev pub sent_at : (i sent : ℕ) → List ℕ → List ℕ
sent_at i sent packets =
    if nat_lt 0 sent && nat_lt i (length packets)
    then slice_set packets i (min (slice_index packets i + sent) (2 ^ 64 - 1)) else packets

-- a client with the places of the stations that it sees in place of their settings
pub record SessionValue : Type 0 where
  pub places : Seen
  pub mode : ModeValue
  pub state : State
  pub open_line : Line
  pub unread : List ℕ
  pub waiting : List ℕ
  -- how many records had arrived when all requests were last found to have looked at their rings
  pub looked : Option ℕ
  -- how many records its requests lost: they went out of their rings before a cursor came to them
  pub lost : ℕ
  -- how many packets the request with each index was sent
  pub packets : List ℕ
  -- what there is to tell of the negotiation
  pub news : Option News

-- The state, where so many lines of a listing were made to wait. A transfer that is to start is in the definitions one
-- that has started after the history.
abbrev pub state_in : Config → List Arrival → View → ModeValue → State → ClientState
state_in config h v mode Negotiating = ClientNegotiating (negotiated_in config mode)
state_in config h v mode (Listing made) = ClientListing (drop made (listing v)) (negotiated_in config mode)
state_in config h v mode Starting =
    ClientTransfer (map (request_of h) (filter_map wish_of (choices_of (negotiated_in config mode)))) 0
state_in config h v mode (Transfer next) = ClientTransfer (filter_map (request_in config) (chosen_of mode)) next
state_in config h v mode Ending = ClientEnding

-- what the client sees
abbrev pub session_view : Config → SessionValue → View
session_view config s = view_in config s.places

-- its stations are there
abbrev pub HasPlaces : Config → SessionValue → Type 0
HasPlaces config s = Fits config s.places

-- the client that a session is
abbrev pub client_in : Config → List Arrival → SessionValue → Client
client_in config h s =
    record {
      state = state_in config h (session_view config s) s.mode s.state;
      open_line = s.open_line;
      unread = s.unread;
      waiting = s.waiting;
    }

-- the session once a change is answered
abbrev pub after_change : SessionValue → Change → SessionValue
after_change s Done = record s { waiting = ok_line }
after_change s Refused = record s { waiting = error_line }
after_change s Starts = record s { state = Starting }

-- the session once the bytes before the next line end have joined its open line
abbrev pub text_taken : SessionValue → SessionValue
text_taken s =
    record s {
      open_line = open_after s.open_line (before_first is_line_end s.unread);
      unread = drop (position_or_len is_line_end s.unread) s.unread;
    }

-- In its end a session's unread bytes are dropped.
abbrev pub kept_unread : State → List ℕ → List ℕ
kept_unread Ending bytes = []
kept_unread _ bytes = bytes

-- A listing is over once its last line, the one after those of the stations, was made to wait and taken.
abbrev pub listed_in : Seen → State → State
listed_in seen (Listing made) = if nat_lt (length seen.places) made then Negotiating else Listing made
listed_in seen state = state

-- the session with that line waiting
abbrev pub with_line : ℕ → SessionValue → Option (List ℕ) → SessionValue
with_line made s None = s
with_line made s (Some line) = record s { state = Listing (made + 1); waiting = line }

-- the session with the next line of the listing waiting
abbrev pub line_made : Config → ℕ → SessionValue → SessionValue
line_made config made s = with_line made s (slice_get (listing (session_view config s)) made)

-- the session but for how far its requests have come, and for what they lost and were sent
abbrev pub but_for_cursors : SessionValue → SessionValue
but_for_cursors s = record s { mode = all_at_start s.mode; looked = None; lost = 0; packets = [] }

-- a count of lost records and so many more, at most 2^64 - 1
abbrev pub lost_with : (lost records : ℕ) → ℕ
lost_with lost records = min (lost + records) (2 ^ 64 - 1)

-- A session that is in a transfer after a call was in it before, with the same requests, and knows the same of them.
pub record KeepsTransfer (before after : SessionValue) : Type 0 where
  pub kept : (next : ℕ) → after.state ≡ Transfer next → (before.state ≡ Transfer next) × (after.mode ≡ before.mode)
  pub looked : (next : ℕ) → after.state ≡ Transfer next → after.looked ≡ before.looked

-- The state does not come to a transfer that is to start.
abbrev pub never_starts : State → Bool
never_starts (Transfer next) = true
never_starts Ending = true
never_starts _ = false

-- A session will read on as another one would. It sees the same stations, has not come nearer to a transfer than that
-- one's state allows, is in a transfer only where that one is in the same, and will have the same to tell.
pub record ReadsOnAs (config : Config) (now first : SessionValue) : Type 0 where
  pub same : (h : List Arrival) → read_on (session_view config now) h now.unread (client_in config h now)
      ≡ read_on (session_view config first) h first.unread (client_in config h first)
  pub places : now.places ≡ first.places
  pub stays : never_starts first.state ≡ true → never_starts now.state ≡ true
  pub kept : KeepsTransfer first now
  pub news : (h : List Arrival) → news_on (session_view config now) h now.unread (client_in config h now) now.news
      ≡ news_on (session_view config first) h first.unread (client_in config h first) first.news

-- It is a listing.
abbrev pub is_listing : State → Bool
is_listing (Listing made) = true
is_listing _ = false

-- The session is that client, or will be once its transfer has started and what is unread is read.
abbrev pub Comes : Settled → Config → List Arrival → SessionValue → Client → Type 0
Comes Rest config h s c = client_in config h s ≡ c
Comes Start config h s c = (s.state ≡ Starting)
    × (read_on (session_view config s) h s.unread (client_in config h s) ≡ c)

-- A request of that station wants records from the position on at which a transfer after the history begins.
abbrev pub HasFirst : Config → List Arrival → Choice → Type 0
HasFirst config h c = (action : Action) → c.action ≡ Some action
    → c.first ≡ first_wanted (station_at config.entries c.station) h (action_value action)

-- the same of all requests
abbrev pub HasFirsts : Config → List Arrival → SessionValue → Type 0
HasFirsts config h s = All (HasFirst config h) (chosen_of s.mode)
