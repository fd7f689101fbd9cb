-- One client over a view and a growing history: what it may send, what it reads, and what it is handed.
-- SeedLink 3, the dialogue and the transfer. Left out: time, and in which pieces TCP carries the bytes.
use Rattle.std.specs.Prelude.{ℕ, ◌+◌, ◌-◌, Bool, true, false, ◌&&◌, nat_lt, if◌then◌else◌, List, [], ◌∷◌, ◌++◌, length}
use Rattle.std.specs.Prelude.{take, drop, map, Option, Some, None, codes, slice_get, option_map, unwrap_or}
use Rattle.std.specs.List.{list_all}
use Rattle.protocol.specs.Catalog.{View, listing}
use Rattle.protocol.specs.Packet.{packet}
use Rattle.protocol.specs.Command.{Command, command_of}
use Rattle.protocol.specs.Lines.{Line, joined, is_line_end}
use Rattle.protocol.specs.Lines.Line.{Text}
use Rattle.protocol.specs.Command.Command.{Bye}
use Rattle.protocol.specs.History.{Arrival, Request, is_of, number_at, first_wanted, next, is_over}
use Rattle.protocol.specs.Session.{Negotiated, Outcome, Wish, outcome_of}
use Rattle.protocol.specs.Session.Negotiated.{Uni}
use Rattle.protocol.specs.Session.Outcome.{Stays, Lists, Starts, Ends}

-- what a client is in the middle of; it is ending once it said BYE or its transfer is complete
pub data State : Type 0 where
  Negotiating : Negotiated → State
  -- the lines that are still to be sent, and what was negotiated before
  Listing : List (List ℕ) → Negotiated → State
  -- the requests, and the first position that may still be chosen
  Transfer : List Request → (from : ℕ) → State
  Ending : State

-- a client that is open
pub record Client : Type 0 where
  pub state : State
  -- the bytes since the last line end that was read
  pub open_line : Line
  -- bytes that came and are not read yet
  pub unread : List ℕ
  -- bytes that are to be handed
  pub waiting : List ℕ

-- a client that has just opened
abbrev pub new_client : Client
new_client = record { state = Negotiating (Uni []); open_line = Text []; unread = []; waiting = [] }

-- ---- obeying lines

-- the request that a wish becomes when its transfer starts
abbrev pub request_of : List Arrival → Wish → Request
request_of h w =
    record { station = w.station; patterns = w.patterns; action = w.action; from = first_wanted w.station h w.action }

-- the client after a command's outcome
abbrev pub follow : View → List Arrival → Client → Negotiated → Outcome → Client
follow v h c n (Stays reply m) = record c { state = Negotiating m; waiting = reply }
follow v h c n Lists = record c { state = Listing (listing v) n }
follow v h c n (Starts wishes) = record c { state = Transfer (map (request_of h) wishes) 0 }
follow v h c n Ends = record c { state = Ending }

-- in a transfer BYE ends it, and nothing else acts
abbrev pub leave : Client → Command → Client
leave c Bye = record c { state = Ending }
leave c _ = c

-- the client in that state after a line that isn't empty
abbrev pub obey_in : View → List Arrival → Line → Client → State → Client
obey_in v h line c (Negotiating n) = follow v h c n (outcome_of v n (command_of line))
obey_in v h line c (Listing lines n) = c
obey_in v h line c (Transfer requests q) = leave c (command_of line)
obey_in v h line c Ending = c

-- the client after a line; an empty one is none
abbrev pub obey : View → List Arrival → Line → Client → Client
obey v h (Text []) c = c
obey v h line c = obey_in v h line c c.state

-- ---- reading what came

-- There are no bytes.
abbrev pub is_nothing : List ℕ → Bool
is_nothing [] = true
is_nothing _ = false

-- Lines are read while nothing waits in negotiation, and at all times in a transfer.
abbrev pub reads : State → (waiting : List ℕ) → Bool
reads (Negotiating n) waiting = is_nothing waiting
reads (Listing lines n) waiting = false
reads (Transfer requests q) waiting = true
reads Ending waiting = false

-- In Ending what is unread is dropped.
abbrev pub left_unread : State → List ℕ → List ℕ
left_unread Ending bytes = []
left_unread _ bytes = bytes

-- A byte ends the open line, which is obeyed, or joins it.
abbrev pub read_byte : View → List Arrival → ℕ → Client → Client
read_byte v h b c = if is_line_end b then obey v h c.open_line
    (record c { open_line = Text [] }) else record c { open_line = joined c.open_line b }

-- The client reads what it may of the unread bytes.
abbrev pub read_on : View → List Arrival → List ℕ → Client → Client
read_on v h [] c = record c { unread = [] }
read_on v h (b ∷ bytes) c =
    if reads c.state c.waiting then read_on v h bytes
    (read_byte v h b c) else record c { unread = left_unread c.state (b ∷ bytes) }

-- how many unread bytes a client may have
abbrev pub inbox : ℕ
inbox = 1024

-- The client is in its end.
abbrev pub is_ending : State → Bool
is_ending Ending = true
is_ending _ = false

-- Bytes that don't fit are refused as a whole.
abbrev pub received : View → List Arrival → List ℕ → Client → Client
received v h bytes c =
    if nat_lt (inbox - length c.unread) (length bytes) then c
    else if is_ending c.state then c
    else read_on v h (c.unread ++ bytes) c

-- ---- handing what waits

-- the packet of the arrival a at position p, by the station whose arrival it is
abbrev pub packet_for : List Arrival → ℕ → Arrival → List Request → List ℕ
packet_for h p a [] = []
packet_for h p a (r ∷ rs) = if is_of r.station a then packet (number_at r.station h p) a.bytes else packet_for h p a rs

-- the packet of the arrival at a position
abbrev pub packet_of : List Arrival → List Request → ℕ → List ℕ
packet_of h requests p = unwrap_or (option_map (λ a. packet_for h p a requests) (slice_get h p)) []

-- The packet of the position that is next waits; where none is and nothing more can come, `END` waits in the end.
abbrev pub chosen : List Arrival → List Request → ℕ → Client → Option ℕ → Client
chosen h requests q c (Some p) = record c { state = Transfer requests (p + 1); waiting = packet_of h requests p }
chosen h requests q c None = if list_all (is_over h) requests then record c {
  state = Ending;
  unread = [];
  waiting = codes "END";
} else c

-- what comes next, by the state: a line of the listing, or a packet
abbrev pub filled_in : List Arrival → Client → State → Client
filled_in h c (Listing (line ∷ lines) n) = record c { state = Listing lines n; waiting = line }
filled_in h c (Transfer requests q) = chosen h requests q c (next h requests q)
filled_in h c _ = c

-- the client with what comes next waiting, where nothing waited
abbrev pub filled : List Arrival → Client → (waiting : List ℕ) → Client
filled h c waiting = if is_nothing waiting then filled_in h c c.state else c

-- An offer: where nothing waits, what comes next is made to wait.
abbrev pub offered : List Arrival → Client → Client
offered h c = filled h c c.waiting

-- The listing is over once its last line was taken.
abbrev pub listed : State → State
listed (Listing [] n) = Negotiating n
listed s = s

-- The client after the first bytes that waited were handed, and these are left.
abbrev pub left_with : View → List Arrival → Client → List ℕ → Client
left_with v h c (b ∷ bs) = record c { waiting = b ∷ bs }
left_with v h c [] = read_on v h c.unread (record c { state = listed c.state; waiting = [] })

-- ---- a client that is cut

-- It is in its end. What waits is still handed; what is unread is dropped, and nothing is read or chosen any more.
abbrev pub cut : Client → Client
cut c = record c { state = Ending; unread = [] }

-- ---- what a Take hands

-- what a Take of n bytes hands, and whether it is ended
pub record Taken : Type 0 where
  pub bytes : List ℕ
  pub ended : Bool

-- the first n bytes that wait
abbrev pub taken_of : Client → ℕ → Taken
taken_of c n = record { bytes = take n c.waiting; ended = is_nothing c.waiting && is_ending c.state }

-- the client after them; where none was handed, nothing more happens
abbrev pub after_take : View → List Arrival → Client → ℕ → Client
after_take v h c n = if is_nothing (take n c.waiting) then c else left_with v h c (drop n c.waiting)
