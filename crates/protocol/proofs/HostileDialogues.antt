-- Dialogues with clients that ask for too much, computed.
use Rattle.std.specs.Prelude.{◌≡◌, refl, ℕ, zero, suc, ◌+◌, ◌/◌, ◌%◌, List, [], ◌∷◌, ◌++◌, length, Option, Some, None}
use Rattle.std.specs.Prelude.{codes, replicate, map, slice_get, drop}
use Rattle.protocol.specs.Catalog.{Station, Config}
use Rattle.protocol.specs.Client.{Client, State}
use Rattle.protocol.specs.Packet.{packet}
use Rattle.protocol.specs.Client.State.{Transfer}
use Rattle.protocol.specs.World.{Event, Handed, handed, world_after, client_of}
use Rattle.protocol.specs.World.Event.{Open, Bytes, Take, Arrive}
use Rattle.protocol.proofs.Dialogues.{insider, outsider, three_stations, room, asks, takes, gives, nothing, ended, ok}
use Rattle.protocol.proofs.Dialogues.{error, named_vault, vault_at, config_of, open_entry}

-- ten pieces of a line that doesn't end, and the room after each
abbrev pub pieces : ℕ → List Event
pieces n = Open insider ∷ replicate n (Bytes 0 (replicate 1000 65))

abbrev pub up_to : ℕ → List ℕ
up_to zero = []
up_to (suc n) = up_to n ++ suc n ∷ []

pub long_line_leaves_room : map (λ n. room (pieces n)) (up_to 10) ≡ replicate 10 1024
long_line_leaves_room = refl

pub long_line_is_one_error : handed three_stations (pieces 10 ++ Bytes 0 (13 ∷ []) ∷ takes 2 0 520)
    ≡ (error ∷ nothing ∷ [])
long_line_is_one_error = refl

-- A packet of which one byte was taken stays, however many arrive.
abbrev pub arrivals : List ℕ → List Event
arrivals seconds = map (λ second. Arrive (vault_at second)) seconds

abbrev pub seconds : ℕ → List ℕ
seconds n = map (λ k. k % 60) (up_to n)

pub begun_packet_stays : handed three_stations
    (named_vault ++ Arrive (vault_at 1) ∷ Take 0 1 ∷ arrivals (drop 1 (seconds 1001)) ++ takes 3 0 520) ≡
    (ok ∷ ok ∷ nothing ∷ gives (codes "S") ∷ gives (drop 1 (packet 0 (vault_at 1)))
    ∷ gives (packet 0x3E8 (vault_at (1001 % 60))) ∷ nothing ∷ [])
begun_packet_stays = refl

-- a client that sees 256 stations
abbrev pub name : ℕ → List ℕ
name n = 83 ∷ (48 + n / 100) ∷ (48 + n / 10 % 10) ∷ (48 + n % 10) ∷ []

abbrev pub numbered_station : ℕ → Station
numbered_station n = record { network = codes "GE"; code = name n; description = []; capacity = 1; first = 0 }

abbrev pub many : Config
many = config_of (map (λ n. open_entry (numbered_station n)) (up_to 256))

abbrev pub station_line : ℕ → List ℕ
station_line n = codes "STATION " ++ name n

abbrev pub greedy : List Event
greedy =
    Open outsider
    ∷ asks 0 (map station_line (up_to 256) ++ codes "DATA" ∷ station_line 1 ∷ replicate 65 (codes "SELECT BHZ")
    ++ codes "DATA" ∷ codes "END" ∷ [])

pub limits_of_stations_and_patterns : handed many greedy
    ≡ (replicate 255 ok ++ error ∷ error ∷ ok ∷ replicate 64 ok ++ error ∷ ok ∷ nothing ∷ [])
limits_of_stations_and_patterns = refl

abbrev pub requests_in : State → ℕ
requests_in (Transfer requests q) = length requests
requests_in _ = 0

abbrev pub requests_of : Option Client → ℕ
requests_of None = 0
requests_of (Some c) = requests_in c.state

pub one_request_is_asked_for : requests_of (client_of (slice_get (world_after many greedy).connections 0)) ≡ 1
one_request_is_asked_for = refl

-- 64 patterns for each of 16 stations, which are all that a client may have; then no station has one more until another
-- has fewer
abbrev pub with_patterns : ℕ → List (List ℕ)
with_patterns zero = []
with_patterns (suc n) = with_patterns n ++ station_line (suc n) ∷ replicate 64 (codes "SELECT BHZ")

abbrev pub once_more : List (List ℕ)
once_more =
    station_line 17 ∷ codes "SELECT BHZ" ∷ codes "SELECT" ∷ station_line 1 ∷ codes "SELECT" ∷ station_line 17
    ∷ codes "SELECT BHZ" ∷ []

-- and a second client from the same address, which has patterns of its own
abbrev pub crowded : List Event
crowded = Open outsider ∷ asks 0 (with_patterns 16 ++ once_more)

pub limit_of_all_patterns : drop 1040 (handed many crowded) ≡ (ok ∷ error ∷ ok ∷ ok ∷ ok ∷ ok ∷ ok ∷ [])
limit_of_all_patterns = refl

abbrev pub two_greedy : List Event
two_greedy = Open outsider ∷ asks 0 (with_patterns 16) ++ Open outsider
    ∷ asks 1 (station_line 1 ∷ codes "SELECT BHZ" ∷ [])

pub patterns_of_one_client : drop 1040 (handed many two_greedy)
    ≡ map (λ (x : Handed). record x { client = 1 }) (ok ∷ ok ∷ [])
patterns_of_one_client = refl

-- In a transfer a line of 300 bytes is nothing, and BYE in 256 bytes ends it.
pub bye_in_256_bytes_ends : handed three_stations
    (Open outsider ∷ asks 0 (codes "DATA" ∷ replicate 300 66 ∷ (codes "BYE" ++ replicate 253 32) ∷ []))
    ≡ (nothing ∷ nothing ∷ ended ∷ [])
bye_in_256_bytes_ends = refl

pub bye_in_257_bytes_is_ignored : handed three_stations
    (Open outsider ∷ asks 0 (codes "DATA" ∷ (codes "BYE" ++ replicate 254 32) ∷ [])) ≡ (nothing ∷ nothing ∷ [])
bye_in_257_bytes_is_ignored = refl
