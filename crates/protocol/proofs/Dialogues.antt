-- Dialogues with a server of three stations, computed.
use Rattle.std.specs.Prelude.{Option, slice_get, drop, ◌-◌, ◌≡◌, refl, ℕ, zero, suc, true, false, List, [], ◌∷◌, ◌++◌}
use Rattle.std.specs.Prelude.{length, Some, None, codes, replicate, map}
use Rattle.protocol.specs.Catalog.{Station, Entry, Config}
use Rattle.protocol.specs.Made.{layout_of}
use Rattle.protocol.specs.Client.{Client, inbox}
use Rattle.protocol.specs.Packet.{packet}
use Rattle.protocol.specs.World.{Event, Handed, handed, accepted, world_after, client_of}
use Rattle.protocol.specs.World.Event.{Open, Bytes, Take, Close, Arrive}
use Rattle.protocol.proofs.Vectors.{sample_fields, sample, with_at}

-- the stations
abbrev pub ape : Station
ape = record { network = codes "GE"; code = codes "APE"; description = codes "Island"; capacity = 4; first = 0 }

abbrev pub wlf : Station
wlf = record { network = codes "GE"; code = codes "WLF"; description = codes "Forest"; capacity = 2; first = 0xFFFFFE }

abbrev pub vault : Station
vault = record { network = codes "XX"; code = codes "APE"; description = codes "Vault"; capacity = 1; first = 0 }

abbrev pub open_entry : Station → Entry
open_entry s = record { station = s; access = None }

abbrev pub ape_entry : Entry
ape_entry = record { station = ape; access = Some (record { address = 0x0A000000; mask = 0xFF000000 } ∷ []) }

abbrev pub config_of : List Entry → Config
config_of entries = record { title = codes "Test Centre"; max_connections = 8; access = None; entries = entries }

abbrev pub three_stations : Config
three_stations = config_of (ape_entry ∷ open_entry wlf ∷ open_entry vault ∷ [])

-- 10.0.0.7, which sees all of them, and 172.16.0.9, which doesn't see the first
abbrev pub insider : ℕ
insider = 0x0A000007

abbrev pub outsider : ℕ
outsider = 0xAC100009

-- records of the stations, that start so many seconds after 2024-02-29T00:00:00 and last one second
abbrev pub record_at : List ℕ → List ℕ → ℕ → List ℕ
record_at network station second =
    layout_of (record sample_fields { network = network; station = station; second = second })

abbrev pub ape_at : ℕ → List ℕ
ape_at second = record_at (codes "GE") (codes "APE") second

abbrev pub wlf_at : ℕ → List ℕ
wlf_at second = record_at (codes "GE") (codes "WLF") second

abbrev pub vault_at : ℕ → List ℕ
vault_at second = record_at (codes "XX") (codes "APE") second

-- a line, and what is taken of the reply
abbrev pub says : List ℕ → ℕ → Event
says text k = Bytes k (text ++ 13 ∷ [])

abbrev pub asks : ℕ → List (List ℕ) → List Event
asks k [] = []
asks k (text ∷ texts) = says text k ∷ Take k 520 ∷ asks k texts

-- one Take after another
abbrev pub takes : ℕ → ℕ → ℕ → List Event
takes zero k n = []
takes (suc times) k n = Take k n ∷ takes times k n

-- what the first client is handed
abbrev pub gives : List ℕ → Handed
gives bytes = record { client = 0; bytes = bytes; ended = false }

abbrev pub nothing : Handed
nothing = gives []

abbrev pub ended : Handed
ended = record { client = 0; bytes = []; ended = true }

abbrev pub ok : Handed
ok = gives (codes "OK" ++ 13 ∷ 10 ∷ [])

abbrev pub error : Handed
error = gives (codes "ERROR" ++ 13 ∷ 10 ∷ [])

abbrev pub greeting : Handed
greeting = gives (codes "SeedLink v3.0 (station access)" ++ 13 ∷ 10 ∷ codes "Test Centre" ++ 13 ∷ 10 ∷ [])

abbrev pub spaces : ℕ → List ℕ
spaces n = replicate n 32

-- a greeting
pub greets : handed three_stations (Open insider ∷ says (codes "HELLO") 0 ∷ takes 2 0 520) ≡ (greeting ∷ nothing ∷ [])
greets = refl

pub greeting_has_45_bytes : length greeting.bytes ≡ 45
greeting_has_45_bytes = refl

-- the same in pieces, and with empty lines
pub greets_in_pieces : handed three_stations
    (Open insider ∷ Bytes 0 (codes "HEL") ∷ Bytes 0 (codes "LO" ++ 13 ∷ []) ∷ Bytes 0 (10 ∷ []) ∷ Bytes 0 (13 ∷ 13 ∷ [])
    ∷ takes 2 0 520) ≡ (greeting ∷ nothing ∷ [])
greets_in_pieces = refl

-- a line of 256 bytes, and one of 257
pub obeys_256_bytes : handed three_stations (Open insider ∷ says (codes "HELLO" ++ spaces 251) 0 ∷ takes 2 0 520)
    ≡ (greeting ∷ nothing ∷ [])
obeys_256_bytes = refl

pub refuses_257_bytes : handed three_stations (Open insider ∷ says (codes "HELLO" ++ spaces 252) 0 ∷ takes 2 0 520)
    ≡ (error ∷ nothing ∷ [])
refuses_257_bytes = refl

-- a command that isn't known, in negotiation and in a transfer
pub refuses_info : handed three_stations (Open insider ∷ says (codes "INFO ID") 0 ∷ takes 2 0 520)
    ≡ (error ∷ nothing ∷ [])
refuses_info = refl

pub ignores_info_in_transfer : handed three_stations
    (Open insider ∷ asks 0 (codes "INFO ID" ∷ codes "DATA" ∷ codes "INFO ID" ∷ [])) ≡ (error ∷ nothing ∷ nothing ∷ [])
ignores_info_in_transfer = refl

-- the stations that are seen
pub lists_what_is_seen : handed three_stations (Open outsider ∷ says (codes "CAT") 0 ∷ takes 4 0 520) ≡
    (gives (codes "GE WLF   Forest" ++ 13 ∷ 10 ∷ []) ∷ gives (codes "XX APE   Vault" ++ 13 ∷ 10 ∷ [])
    ∷ gives (codes "END" ++ 13 ∷ 10 ∷ []) ∷ nothing ∷ [])
lists_what_is_seen = refl

-- the same bytes where the hidden station isn't there at all
pub lists_as_without_hidden : handed three_stations
    (Open outsider ∷ asks 0 (codes "HELLO" ∷ codes "CAT" ∷ codes "HELLO" ∷ []) ++ takes 3 0 520) ≡
    handed (config_of (open_entry wlf ∷ open_entry vault ∷ []))
    (Open outsider ∷ asks 0 (codes "HELLO" ∷ codes "CAT" ∷ codes "HELLO" ∷ []) ++ takes 3 0 520)
lists_as_without_hidden = refl

-- a station that isn't seen isn't found
pub hidden_station_is_unknown : handed three_stations
    (Open outsider ∷ asks 0 (codes "STATION APE" ∷ codes "STATION APE GE" ∷ codes "STATION NONE GE" ∷ []))
    ≡ (ok ∷ error ∷ error ∷ [])
hidden_station_is_unknown = refl

-- Without a network it is the first of that code that is seen: the hidden one's arrivals are nothing to the client.
pub named_without_network_is_seen : handed three_stations
    (Open outsider ∷ asks 0 (codes "STATION APE" ∷ codes "DATA" ∷ codes "END" ∷ []) ++ Arrive (ape_at 1)
    ∷ Arrive (vault_at 1) ∷ Arrive (ape_at 2) ∷ takes 2 0 520) ≡
    (ok ∷ ok ∷ nothing ∷ gives (packet 0 (vault_at 1)) ∷ nothing ∷ [])
named_without_network_is_seen = refl

-- the first station that is seen
pub data_is_of_first_seen : handed three_stations
    (Open outsider ∷ says (codes "DATA") 0 ∷ Arrive (wlf_at 1) ∷ Arrive (ape_at 1) ∷ takes 2 0 520)
    ≡ (gives (packet 0xFFFFFE (wlf_at 1)) ∷ nothing ∷ [])
data_is_of_first_seen = refl

-- three arrivals at a station that holds two
abbrev pub three : List Event
three = Arrive (wlf_at 1) ∷ Arrive (wlf_at 2) ∷ Arrive (wlf_at 3) ∷ []

pub fetch_from_number_past_the_wrap : handed three_stations
    (three ++ Open outsider ∷ says (codes "FETCH 0") 0 ∷ takes 3 0 520)
    ≡ (gives (packet 0 (wlf_at 3)) ∷ gives (codes "END") ∷ ended ∷ [])
fetch_from_number_past_the_wrap = refl

pub fetch_from_overwritten : handed three_stations
    (three ++ Open outsider ∷ says (codes "FETCH FFFFFE") 0 ∷ takes 4 0 520) ≡
    (gives (packet 0xFFFFFF (wlf_at 2)) ∷ gives (packet 0 (wlf_at 3)) ∷ gives (codes "END") ∷ ended ∷ [])
fetch_from_overwritten = refl

-- A hidden arrival after the last one doesn't keep a FETCH from its end.
pub fetch_ends_beside_hidden : handed three_stations
    (Arrive (wlf_at 1) ∷ Arrive (ape_at 1) ∷ Open outsider ∷ says (codes "FETCH") 0 ∷ takes 3 0 520)
    ≡ (gives (packet 0xFFFFFE (wlf_at 1)) ∷ gives (codes "END") ∷ ended ∷ [])
fetch_ends_beside_hidden = refl

pub data_from_next_number : handed three_stations
    (three ++ Open outsider ∷ says (codes "DATA 1") 0 ∷ Take 0 520 ∷ Arrive (wlf_at 4) ∷ takes 2 0 520)
    ≡ (nothing ∷ gives (packet 1 (wlf_at 4)) ∷ nothing ∷ [])
data_from_next_number = refl

-- A packet that was offered stays, also where its record is overwritten meanwhile.
abbrev pub named_vault : List Event
named_vault = Open outsider ∷ asks 0 (codes "STATION APE XX" ∷ codes "DATA" ∷ codes "END" ∷ [])

pub offered_packet_stays : handed three_stations
    (named_vault ++ Arrive (vault_at 1) ∷ Take 0 0 ∷ Arrive (vault_at 2) ∷ takes 2 0 520) ≡
    (ok ∷ ok ∷ nothing ∷ nothing ∷ gives (packet 0 (vault_at 1)) ∷ gives (packet 1 (vault_at 2)) ∷ [])
offered_packet_stays = refl

-- and one that was overwritten before is passed over
pub overwritten_is_passed_over : handed three_stations
    (named_vault ++ Arrive (vault_at 1) ∷ Arrive (vault_at 2) ∷ takes 2 0 520)
    ≡ (ok ∷ ok ∷ nothing ∷ gives (packet 1 (vault_at 2)) ∷ nothing ∷ [])
overwritten_is_passed_over = refl

-- two stations, in the order of arrival, byte after byte
abbrev pub both_named : List Event
both_named = asks 0 (codes "STATION APE GE" ∷ codes "DATA" ∷ codes "STATION WLF GE" ∷ codes "DATA" ∷ codes "END" ∷ [])

abbrev pub four_packets : List ℕ
four_packets = packet 0 (ape_at 1) ++ packet 0xFFFFFE (wlf_at 1) ++ packet 1 (ape_at 2) ++ packet 0xFFFFFF (wlf_at 2)

abbrev pub in_order : List Handed
in_order = ok ∷ ok ∷ ok ∷ ok ∷ nothing ∷ map (λ byte. gives (byte ∷ [])) four_packets ++ nothing ∷ []

pub greeting_bytes : greeting.bytes
    ≡ (0x53 ∷ 0x65 ∷ 0x65 ∷ 0x64 ∷ 0x4c ∷ 0x69 ∷ 0x6e ∷ 0x6b ∷ 0x20 ∷ 0x76 ∷ 0x33 ∷ 0x2e ∷ 0x30 ∷ 0x20 ∷ 0x28 ∷ 0x73
    ∷ 0x74 ∷ 0x61 ∷ 0x74 ∷ 0x69 ∷ 0x6f ∷ 0x6e ∷ 0x20 ∷ 0x61 ∷ 0x63 ∷ 0x63 ∷ 0x65 ∷ 0x73 ∷ 0x73 ∷ 0x29 ∷ 0x0d ∷ 0x0a
    ∷ 0x54 ∷ 0x65 ∷ 0x73 ∷ 0x74 ∷ 0x20 ∷ 0x43 ∷ 0x65 ∷ 0x6e ∷ 0x74 ∷ 0x72 ∷ 0x65 ∷ 0x0d ∷ 0x0a ∷ [])
greeting_bytes = refl

-- a client that isn't open yet, a line in two pieces, and BYE
pub not_open_then_pieces_then_bye : handed three_stations
    (Take 0 5 ∷ Open insider ∷ Bytes 0 (codes "HEL") ∷ Bytes 0 (codes "LO" ++ 13 ∷ []) ∷ Bytes 0 (10 ∷ []) ∷ Take 0 520
    ∷ says (codes "BYE") 0 ∷ Take 0 1 ∷ []) ≡ (ended ∷ greeting ∷ ended ∷ [])
not_open_then_pieces_then_bye = refl

-- patterns
pub patterns_are_judged : handed three_stations
    (Open insider ∷ asks 0 (codes "SELECT BH?" ∷ codes "SELECT !E" ∷ codes "SELECT 00BHZ.D" ∷ codes "SELECT --LCQ"
    ∷ codes "SELECT BH" ∷ codes "SELECT .Q" ∷ [])) ≡
    (ok ∷ ok ∷ ok ∷ ok ∷ error ∷ error ∷ [])
patterns_are_judged = refl

-- a day that doesn't exist, and a window that has been passed: the record starts 0.0001 s after it
abbrev pub after_window : List ℕ
after_window = layout_of (record sample_fields { second = 10; fraction = 1 })

abbrev pub window : List ℕ
window = codes "TIME 2024,2,29 2024,2,29,0,0,10"

pub passed_window_ends : handed three_stations
    (Open insider ∷ asks 0 (codes "TIME 2024,2,30" ∷ []) ++ Arrive after_window ∷ says window 0 ∷ takes 2 0 520)
    ≡ (error ∷ gives (codes "END") ∷ ended ∷ [])
passed_window_ends = refl

pub open_window_waits : handed three_stations
    (Open insider ∷ Arrive (ape_at 0) ∷ says window 0 ∷ takes 2 0 520 ++ Arrive after_window ∷ takes 2 0 520) ≡
    (gives (packet 0 (ape_at 0)) ∷ nothing ∷ gives (codes "END") ∷ ended ∷ [])
open_window_waits = refl

-- END without an action, and a pattern without a station
pub end_needs_an_action : handed three_stations
    (Open outsider ∷ asks 0 (codes "END" ∷ codes "STATION WLF" ∷ codes "END" ∷ codes "STATION NONE" ∷ codes "SELECT BHZ"
    ∷ [])) ≡ (error ∷ ok ∷ error ∷ error ∷ error ∷ [])
end_needs_an_action = refl

-- how many bytes the first client may still send
abbrev pub room_left : Option Client → ℕ
room_left None = 0
room_left (Some c) = inbox - length c.unread

abbrev pub room : List Event → ℕ
room es = room_left (client_of (slice_get (world_after three_stations es).connections 0))

-- what doesn't fit is refused as a whole
abbrev pub too_much : List Event
too_much = Open insider ∷ says (codes "HELLO") 0 ∷ Bytes 0 (replicate 1025 65) ∷ []

abbrev pub full : List Event
full = too_much ++ Bytes 0 (replicate 1024 65) ∷ []

pub unread_bytes_take_room : map room
    (too_much ∷ full ∷ (full ++ Bytes 0 (65 ∷ []) ∷ []) ∷ (full ++ Take 0 520 ∷ []) ∷ []) ≡ (1024 ∷ 0 ∷ 0 ∷ 1024 ∷ [])
unread_bytes_take_room = refl

pub too_much_is_refused_whole : handed three_stations
    (full ++ Bytes 0 (65 ∷ []) ∷ Take 0 520 ∷ Bytes 0 (13 ∷ []) ∷ takes 2 0 520) ≡ (greeting ∷ error ∷ nothing ∷ [])
too_much_is_refused_whole = refl

-- BYE within a packet
pub bye_within_a_packet : handed three_stations
    (Open outsider ∷ says (codes "DATA") 0 ∷ Arrive (wlf_at 1) ∷ Arrive (wlf_at 2) ∷ Take 0 1 ∷ says (codes "BYE") 0
    ∷ takes 2 0 520) ≡
    (gives (codes "S") ∷ gives (drop 1 (packet 0xFFFFFE (wlf_at 1))) ∷ ended ∷ [])
bye_within_a_packet = refl

-- from a number on, and from an end on: the first record ends at second 1, the other at second 2
abbrev pub two : List Event
two = Arrive (wlf_at 0) ∷ Arrive (wlf_at 1) ∷ []

pub data_from_number : handed three_stations (two ++ Open outsider ∷ says (codes "DATA FFFFFF") 0 ∷ takes 2 0 520)
    ≡ (gives (packet 0xFFFFFF (wlf_at 1)) ∷ nothing ∷ [])
data_from_number = refl

pub data_from_begin : handed three_stations
    (two ++ Open outsider ∷ says (codes "DATA FFFFFE 2024,2,29,0,0,2") 0 ∷ takes 2 0 520)
    ≡ (gives (packet 0xFFFFFF (wlf_at 1)) ∷ nothing ∷ [])
data_from_begin = refl

-- Refused arrivals have no number.
abbrev pub unknown_station : List ℕ
unknown_station = record_at (codes "GE") (codes "NONE") 0

pub unknown_station_is_refused : accepted three_stations unknown_station ≡ None
unknown_station_is_refused = refl

pub refused_arrivals_have_no_number : handed three_stations
    (Open insider ∷ says (codes "DATA") 0 ∷ Arrive unknown_station ∷ Arrive (with_at 6 (0x58 ∷ []) sample)
    ∷ Arrive sample ∷ takes 2 0 520) ≡ (gives (packet 0 sample) ∷ nothing ∷ [])
refused_arrivals_have_no_number = refl

-- A station that is named again keeps its patterns, and one without an action is not asked for.
abbrev pub wlf_bhn : List ℕ
wlf_bhn = layout_of (record sample_fields { station = codes "WLF"; channel = codes "BHN"; second = 2 })

pub named_again_keeps_patterns : handed three_stations
    (Arrive (wlf_at 1) ∷ Arrive wlf_bhn ∷ Open outsider
    ∷ asks 0 (codes "STATION WLF GE" ∷ codes "SELECT BHZ" ∷ codes "STATION APE XX" ∷ codes "STATION WLF GE"
    ∷ codes "FETCH" ∷ codes "END" ∷ []) ++ takes 2 0 520) ≡
    (ok ∷ ok ∷ ok ∷ ok ∷ ok ∷ gives (packet 0xFFFFFE (wlf_at 1)) ∷ gives (codes "END") ∷ ended ∷ [])
named_again_keeps_patterns = refl

-- what a reader's plan asks, of a station with patterns and of one that isn't there
pub plan_is_answered : handed three_stations
    (three ++ Open outsider ∷ asks 0
    (codes "HELLO" ∷ codes "STATION WLF GE" ∷ codes "SELECT BH?" ∷ codes "SELECT !E" ∷ codes "FETCH"
    ∷ codes "STATION NONE GE" ∷ codes "END" ∷ []) ++ takes 4 0 520) ≡
    (greeting ∷ ok ∷ ok ∷ ok ∷ ok ∷ error ∷ gives (packet 0xFFFFFF (wlf_at 2)) ∷ gives (packet 0 (wlf_at 3))
    ∷ gives (codes "END") ∷ ended ∷ ended ∷ [])
plan_is_answered = refl

-- Only what passes the patterns is sent.
abbrev pub vault_bhn : List ℕ
vault_bhn = layout_of (record sample_fields { network = codes "XX"; channel = codes "BHN"; second = 2 })

pub only_what_passes_is_sent : handed three_stations
    (Open outsider ∷ asks 0 (codes "STATION APE XX" ∷ codes "SELECT BHZ" ∷ codes "DATA" ∷ codes "END" ∷ [])
    ++ Arrive (vault_at 1) ∷ Take 0 520 ∷ Arrive vault_bhn ∷ takes 1 0 520) ≡
    (ok ∷ ok ∷ ok ∷ nothing ∷ gives (packet 0 (vault_at 1)) ∷ nothing ∷ [])
only_what_passes_is_sent = refl

-- What is closed stays closed when another client opens.
pub closed_stays_closed : handed three_stations
    (Open outsider ∷ Close 0 ∷ Open outsider ∷ says (codes "HELLO") 0 ∷ says (codes "HELLO") 1 ∷ Take 0 520 ∷ Take 1 520
    ∷ []) ≡ (ended ∷ record greeting { client = 1 } ∷ [])
closed_stays_closed = refl
