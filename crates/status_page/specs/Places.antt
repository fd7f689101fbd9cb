-- What stands at a place of a template, by the row that it is in. A row has nothing at the places of another kind.
use Rattle.std.specs.Prelude.{ℕ, Bool, if◌then◌else◌, List, [], Option, Some, None, codes, count_by, decimal}
use Rattle.status_page.specs.declared.place.Place.{Place}
use Rattle.status_page.specs.declared.place.Place.TheVariants.{Title, Version, Passed, PassedAge, Since, SilentAfter}
use Rattle.status_page.specs.declared.place.Place.TheVariants.{OpenClients, OpenFeeds, Records, Refused, SentBytes}
use Rattle.status_page.specs.declared.place.Place.TheVariants.{TurnSeconds, Turns, Network, Code, Description, Users}
use Rattle.status_page.specs.declared.place.Place.TheVariants.{State, Held, Capacity, NextNumber, Came, Last, Start}
use Rattle.status_page.specs.declared.place.Place.TheVariants.{Stop, StopSeconds, Silence, SilenceAge, Bars, Followers}
use Rattle.status_page.specs.declared.place.Place.TheVariants.{Number, Address, Here, Named, Bytes, Ahead, Name}
use Rattle.status_page.specs.declared.place.Place.TheVariants.{StatusCode, Kind, Length, HeardCount, WaitingCount}
use Rattle.status_page.specs.declared.place.Place.TheVariants.{SilentCount, IsSilent, Limit, LimitOrNull, SinceKnown}
use Rattle.status_page.specs.declared.place.Place.TheVariants.{StartKnown, Lost, LostRecords}
use Rattle.status_page.specs.declared.place.Place.TheVariants as place
use Rattle.status_page.specs.declared.place.HeadValue.{HeadValue}
use Rattle.status_page.specs.declared.place.Row.{Row}
use Rattle.status_page.specs.declared.place.Row.TheVariants as row
use Rattle.status_page.specs.declared.value.StatusValue.{StatusValue}
use Rattle.status_page.specs.declared.value.StationState.{StationState}
use Rattle.status_page.specs.declared.value.StationState.TheVariants.{Heard, Waiting, Silent as SilentState}
use Rattle.status_page.specs.declared.value.StationStatus.{StationStatus}
use Rattle.status_page.specs.declared.value.ClientStatus.{ClientStatus}
use Rattle.status_page.specs.declared.value.NamedCount.{NamedCount}
use Rattle.status_page.specs.declared.value.TurnBucket.{TurnBucket}
use Rattle.status_page.specs.Texts.{address_text, age_text, bars_text, known_text, last_text, micros_text, since_text}
use Rattle.status_page.specs.Texts.{start_known, start_text, stop_seconds, stop_text}
use Rattle.status_page.specs.Values.{is_in, is_silent, state_of}

abbrev pub state_count_text : StationState → List StationStatus → List ℕ
state_count_text state ss = decimal (count_by (λ s. is_in state (state_of s)) ss)

abbrev pub server_text : StatusValue → Place → List ℕ
server_text v Title = v.title.now
server_text v Version = v.version.now
server_text v Passed = decimal v.passed
server_text v PassedAge = age_text v.passed
server_text v Since = since_text v.began
server_text v SinceKnown = known_text v.began
server_text v SilentAfter = decimal v.silent_after
server_text v HeardCount = state_count_text Heard v.stations.now
server_text v WaitingCount = state_count_text Waiting v.stations.now
server_text v SilentCount = state_count_text SilentState v.stations.now
server_text v OpenClients = decimal v.open_clients
server_text v OpenFeeds = decimal v.open_feeds
server_text v Records = decimal v.records
server_text v Refused = decimal v.refused
server_text v SentBytes = decimal v.client_bytes
server_text v LostRecords = decimal v.client_lost
server_text v TurnSeconds = micros_text v.turns.micros
server_text v Turns = decimal v.turns.count
server_text v _ = []

abbrev pub state_text : StationState → List ℕ
state_text Heard = codes "ok"
state_text Waiting = codes "waiting"
state_text SilentState = codes "silent"

abbrev pub flag_text : Bool → List ℕ
flag_text is_so = if is_so then codes "1" else codes "0"

abbrev pub limit_text : (without : List ℕ) → Option ℕ → List ℕ
limit_text without None = without
limit_text without (Some seconds) = decimal seconds

abbrev pub station_text : StationStatus → Place → List ℕ
station_text s Network = s.network.now
station_text s Code = s.code.now
station_text s Description = s.description.now
station_text s Users = s.users.now
station_text s State = state_text (state_of s)
station_text s IsSilent = flag_text (is_silent s)
station_text s Limit = limit_text (codes "-") s.silent_after
station_text s LimitOrNull = limit_text (codes "null") s.silent_after
station_text s Held = decimal s.held
station_text s Capacity = decimal s.capacity
station_text s NextNumber = s.next_number
station_text s Came = decimal s.records
station_text s Last = last_text s.last
station_text s Start = start_text s.last
station_text s StartKnown = start_known s.last
station_text s Stop = stop_text s.last
station_text s StopSeconds = stop_seconds s.last
station_text s Silence = decimal s.age
station_text s SilenceAge = age_text s.age
station_text s Bars = bars_text s.minutes.now
station_text s Followers = decimal s.followers
station_text s _ = []

abbrev pub client_text : ClientStatus → Place → List ℕ
client_text c Number = decimal c.number
client_text c Address = address_text c.address
client_text c Here = decimal c.seconds
client_text c Named = decimal c.named
client_text c Bytes = decimal c.bytes
client_text c Ahead = decimal c.behind
client_text c Lost = decimal c.lost
client_text c _ = []

abbrev pub count_text : NamedCount → Place → List ℕ
count_text n Name = n.name.now
count_text n place.Count = decimal n.count
count_text n _ = []

abbrev pub bucket_text : TurnBucket → Place → List ℕ
bucket_text b Name = b.bound.now
bucket_text b place.Count = decimal b.count
bucket_text b _ = []

abbrev pub head_values : (code kind : List ℕ) → (length : ℕ) → Place → List ℕ
head_values code kind length StatusCode = code
head_values code kind length Kind = kind
head_values code kind length Length = decimal length
head_values code kind length _ = []

abbrev pub head_text : HeadValue → Place → List ℕ
head_text h = head_values h.code.now h.kind.now h.length

-- the values of a row, each at its place
abbrev pub value_text : Row → Place → List ℕ
value_text (row.Server v) = server_text v.now
value_text (row.Station s) = station_text s.now
value_text (row.Client c) = client_text c.now
value_text (row.Count n) = count_text n.now
value_text (row.Bucket b) = bucket_text b.now
value_text (row.Head h) = head_text h.now
