-- What is told of a running server: when the last record of a station came, and how far behind a client is.
-- This project's own.
use Rattle.std.specs.Prelude.{◌≡◌, ℕ, ◌+◌, ◌-◌, ◌/◌, ◌^◌, ◌<◌, ◌≤◌, min, nat_lt, if◌then◌else◌, List, [], ◌∷◌, length}
use Rattle.std.specs.Prelude.{Option, Some, None, Vec, option_map, slice_get, slice_index_or}
use Rattle.std.specs.Option.{unwrap_or}
use Rattle.std.specs.declared.alloc.Global.{Global}
use Rattle.ports.specs.declared.present.PresentClient.{PresentClient}
use Rattle.protocol.specs.Catalog.{Entry as ConfigEntry}
use Rattle.session_state.specs.declared.choices.Entry.{Entry}
use Rattle.session_state.specs.declared.session.State.{State}
use Rattle.session_state.specs.declared.session.State.TheVariants.{Transfer}
use Rattle.station_ring.specs.HeldRecords.{RingsValue}
use Rattle.station_ring.specs.Rings.{RingValue}
use Rattle.status_page.specs.declared.value.ClientStatus.{ClientStatus}
use Rattle.server_watch.specs.declared.watch.Followed.{Followed}
use Rattle.status_page.specs.declared.value.StationStatus.{StationStatus}
use Rattle.server_watch.specs.Minutes.{counted, reached}
use Rattle.server_watch.specs.declared.arrivals.Arrivals.{Arrivals}

-- what is known of a station's records once so many have come, at a time in milliseconds
abbrev pub noted : (pushes now : ℕ) → Arrivals → Arrivals
noted pushes now a =
    if nat_lt a.seen pushes
    then record { seen = pushes; last = now; minutes = counted (now / 60000) (pushes - a.seen) a.minutes }
    else record a { seen = pushes }

-- the same by a ring, if there is one
abbrev pub noted_of : Option RingValue → (now : ℕ) → Arrivals → Arrivals
noted_of None now a = a
noted_of (Some r) now a = noted r.pushes now a

-- the same of all stations, by their rings
abbrev pub all_noted : (now : ℕ) → List Arrivals → List RingValue → List Arrivals
all_noted now [] rs = []
all_noted now (a ∷ others) [] = a ∷ others
all_noted now (a ∷ others) (r ∷ rs) = noted r.pushes now a ∷ all_noted now others rs

-- what is known of a station's records at a minute
abbrev pub reaching : (minute : ℕ) → Arrivals → Arrivals
reaching minute a = record a { minutes = reached minute a.minutes }

-- how many seconds ago the last one came
abbrev pub age_of : (now : ℕ) → Arrivals → ℕ
age_of now a = (now - a.last) / 1000

-- how many records a station has had
abbrev pub pushes_of : Option RingValue → ℕ
pushes_of None = 0
pushes_of (Some r) = r.pushes

-- how many of them a request has not looked at
abbrev pub lag : RingsValue → Entry → ℕ
lag rings e = pushes_of (slice_get rings.rings e.station) - e.cursor.ring_place

-- the same of several requests together; it stays at 2^64 - 1
abbrev pub behind_from : (sum : ℕ) → RingsValue → List Entry → ℕ
behind_from sum rings [] = sum
behind_from sum rings (e ∷ es) = behind_from (min (sum + lag rings e) (2 ^ 64 - 1)) rings es

-- ---- what is told of a station and of a client

-- What is told of the station at a place is its own: its settings, how many records came and when the last one did, who
-- is listed as one who may use it, and after how long it is silent.
pub record TellsOf (now place : ℕ) (entry : ConfigEntry) (rings : RingsValue) (arrivals : List Arrivals)
    (listed : List ℕ) (limit : Option ℕ) (s : StationStatus) : Type 0 where
  pub network : s.network.now ≡ entry.station.network
  pub code : s.code.now ≡ entry.station.code
  pub description : s.description.now ≡ entry.station.description
  pub capacity : s.capacity ≡ entry.station.capacity
  pub records : Some s.records ≡ option_map (λ r. r.pushes) (slice_get rings.rings place)
  pub age : Some s.age ≡ option_map (age_of now) (slice_get arrivals place)
  pub users : s.users.now ≡ listed
  pub silent_after : s.silent_after ≡ limit

-- who is listed as one who may use the station at a place
abbrev pub listed_at : List (Vec ℕ Global) → ℕ → List ℕ
listed_at users place = unwrap_or (option_map (λ u. u.items) (slice_get users place)) []

-- after how long the station at a place is silent; never where nothing is said of it
abbrev pub limit_at : List (Option ℕ) → ℕ → Option ℕ
limit_at limits place = unwrap_or (slice_get limits place) None

-- There is a ring, what is known of its records, and a count of followers for each of so many stations.
abbrev pub Knows : (stations : ℕ) → RingsValue → List Arrivals → (followers : List ℕ) → Type 0
Knows stations rings arrivals followers =
    (stations ≤ length rings.rings) × (stations ≤ length arrivals) × (stations ≤ length followers)

-- What is told of the stations of a configuration, in its order: of each its own, and nothing else.
pub record TellOf (now : ℕ) (entries : List ConfigEntry) (rings : RingsValue) (arrivals : List Arrivals)
    (users : List (Vec ℕ Global)) (limits : List (Option ℕ)) (told : List StationStatus) : Type 0 where
  pub count : length told ≡ length entries
  pub each : (k : ℕ) (e : ConfigEntry) (s : StationStatus) → k < length told
      → TellsOf now k (slice_index_or entries k e) rings arrivals (listed_at users k) (limit_at limits k)
      (slice_index_or told k s)

-- how many records are ahead of a client, by what its session is in the middle of: none without a transfer
abbrev pub ahead_by : State → RingsValue → List Entry → ℕ
ahead_by (Transfer from) rings es = behind_from 0 rings es
ahead_by _ rings es = 0

-- what is told of a client, by its port, by what its session tells and by who is there: nothing counts for one that is
-- not in the table
abbrev pub client_status_of : (now port : ℕ) → Followed → Option PresentClient → ClientStatus
client_status_of now port f (Some v) =
    record {
      number = port;
      address = v.address.octets;
      seconds = (now - v.since) / 1000;
      named = f.named;
      bytes = v.bytes;
      behind = f.behind;
      lost = f.lost;
    }
client_status_of now port f None =
    record {
      number = port;
      address = 0 ∷ 0 ∷ 0 ∷ 0 ∷ [];
      seconds = 0;
      named = f.named;
      bytes = 0;
      behind = f.behind;
      lost = f.lost;
    }
