-- What the loop says that it decides.
-- The loop is this project's own. Left out: whether anybody hears it.
use Rattle.std.specs.Prelude.{◌≡◌, ◌≢◌, ℕ, ◌+◌, ◌<◌, ◌≤◌, Bool, true, List, [], ◌∷◌, ◌++◌}
use Rattle.std.specs.Prelude.{length, map, slice_index, Option, None, Some}
use Rattle.std.specs.Prelude.{Result, Ok, Err, flat_map, nat_lt, if◌then◌else◌, slice_index_or}
use Rattle.protocol.specs.Catalog.{Config}
use Rattle.protocol.specs.World.{World}
use Rattle.protocol.specs.Record.{record_reason}
use Rattle.protocol.specs.declared.reason.Reason.TheVariants as reason
use Rattle.server_core.specs.Arrivals.{answer_to}
use Rattle.server_core.specs.declared.arrivals.ArriveFault.{ArriveFault}
use Rattle.server_core.specs.declared.arrivals.ArriveFault.TheVariants.{Exhausted, Record, UnknownStation}
use Rattle.ports.specs.Decisions.{Decides}
use Rattle.ports.specs.declared.decisions.AwayReason.TheVariants.{Feeds, Memory, MaxConnections}
use Rattle.ports.specs.declared.decisions.Decision.{Decision}
use Rattle.ports.specs.declared.decisions.Decision.TheVariants.{Cut, LetIn, Lost, Refused, Sent, TurnedAway}
use Rattle.ports.specs.declared.decisions.Party.TheVariants.{Client, Feed}
use Rattle.ports.specs.declared.decisions.RecordCodes.{RecordCodes}
use Rattle.ports.specs.declared.decisions.RecordRefusal.{RecordRefusal}
use Rattle.ports.specs.declared.decisions.RecordRefusal.TheVariants.{Other, Unknown}
use Rattle.session_state.specs.declared.choices.Entry.{Entry}
use Rattle.session_state.specs.Choices.{chosen_of}
use Rattle.session_state.specs.NamedValues.{entry_of}
use Rattle.session_state.specs.Sessions.{SessionValue}
use Rattle.event_loop.specs.Telling.{place_codes}
use Rattle.server_core.specs.Reloads.{is_cut_at}
use Rattle.server_core.specs.ServerValues.{ServerValue}
use Rattle.event_loop.specs.declared.seat.Role.{Role}
use Rattle.event_loop.specs.declared.seat.Role.TheVariants.{Client as ClientRole, Feed as FeedRole}
use Rattle.event_loop.specs.declared.seat.Seat.{Seat}
use Rattle.event_loop.specs.Hearing.{clients_in, feeds_in, is_seated}

-- What is said of a client's port that joins at some seats, which are others after it. Only who has a seat was let in,
-- and no other reason is given where there is no place for one more.
pub data ClientDecided (max_clients port : ℕ) (ss ss' : List Seat) (old new : Option (List (ℕ × Decision))) : Type 0
  where
    is_open : is_seated port ss ≡ true → new ≡ old → ClientDecided max_clients port ss ss' old new
    full : max_clients ≤ clients_in ss → Decides old new ((port, TurnedAway MaxConnections) ∷ [])
        → ClientDecided max_clients port ss ss' old new
    no_memory : clients_in ss < max_clients → ss' ≡ ss → Decides old new ((port, TurnedAway Memory) ∷ [])
        → ClientDecided max_clients port ss ss' old new
    let_in : length ss < length ss' → Decides old new ((port, LetIn Client) ∷ [])
        → ClientDecided max_clients port ss ss' old new

-- the same of a feed's port
pub data FeedDecided (port : ℕ) (ss ss' : List Seat) (old new : Option (List (ℕ × Decision))) : Type 0 where
  is_open : is_seated port ss ≡ true → new ≡ old → FeedDecided port ss ss' old new
  full : 16 ≤ feeds_in ss → Decides old new ((port, TurnedAway Feeds) ∷ []) → FeedDecided port ss ss' old new
  no_memory : feeds_in ss < 16 → ss' ≡ ss → Decides old new ((port, TurnedAway Memory) ∷ [])
      → FeedDecided port ss ss' old new
  let_in : length ss < length ss' → Decides old new ((port, LetIn Feed) ∷ []) → FeedDecided port ss ss' old new

-- the codes of a record's station, by its bytes
abbrev pub codes_in : List ℕ → RecordCodes
codes_in r = record {
  network = slice_index r 18 ∷ slice_index r 19 ∷ [];
  station = slice_index r 8 ∷ slice_index r 9 ∷ slice_index r 10 ∷ slice_index r 11 ∷ slice_index r 12 ∷ [];
}

-- ---- clients that end

-- what is said of a station of which a client was sent so many packets, if it was sent any
abbrev pub packets_said : Config → (port place packets : ℕ) → List (ℕ × Decision)
packets_said config port place packets =
    if nat_lt 0 packets then (port, Sent (place_codes config place) packets) ∷ [] else []

-- what is said of stations that a client named, in order, from the request with an index on, by how many packets each
-- request was sent
abbrev pub all_packets_said : Config → (port index : ℕ) → List Entry → (packets : List ℕ) → List (ℕ × Decision)
all_packets_said config port index [] packets = []
all_packets_said config port index (e ∷ es) packets =
    packets_said config port e.station (slice_index_or packets index 0)
    ++ all_packets_said config port (index + 1) es packets

-- how many records a client lost, if any
abbrev pub lost_said : (port lost : ℕ) → List (ℕ × Decision)
lost_said port lost = if nat_lt 0 lost then (port, Lost lost) ∷ [] else []

-- what is said of a port whose client ends, by its session: what it was sent, and how many records it lost
abbrev pub traffic_said : Config → (port : ℕ) → Option SessionValue → List (ℕ × Decision)
traffic_said config port None = []
traffic_said config port (Some s) =
    all_packets_said config port 0 (map entry_of (chosen_of s.mode)) s.packets ++ lost_said port s.lost

-- ---- clients that a new configuration cuts

-- what is said of a port, by whose it is: that its client is cut, if it is
abbrev pub cut_said : ServerValue → (port : ℕ) → Role → List (ℕ × Decision)
cut_said server port (ClientRole k) = if is_cut_at server k then (port, Cut) ∷ [] else []
cut_said server port (FeedRole rest) = []

abbrev pub cut_of : ServerValue → Seat → List (ℕ × Decision)
cut_of server s = cut_said server s.port s.role

-- what is said of all ports, in order
abbrev pub cuts_in : ServerValue → List Seat → List (ℕ × Decision)
cuts_in server ss = flat_map (cut_of server) ss

-- ---- records

-- why a record is refused, by the fault that answers it
abbrev pub refusal_of : ArriveFault → List ℕ → RecordRefusal
refusal_of UnknownStation r = Unknown (codes_in r)
refusal_of (Record f) r = Other (record_reason f)
refusal_of Exhausted r = Other reason.Exhausted

-- what is said of a record that a port gave, by the answer to it
abbrev pub decided_of : (port : ℕ) → List ℕ → Result ℕ ArriveFault → List (ℕ × Decision)
decided_of port r (Ok number) = []
decided_of port r (Err fault) = (port, Refused (refusal_of fault r)) ∷ []

-- What is said of a record: nothing if it is taken, and else why it is refused.
pub record RecordDecided (config : Config) (w : World) (bytes : List ℕ) (port : ℕ)
    (old new : Option (List (ℕ × Decision))) : Type 0 where
  pub answer : Result ℕ ArriveFault
  pub is : answer ≢ Err Exhausted → answer ≡ answer_to config w.history bytes
  pub decides : Decides old new (decided_of port bytes answer)
