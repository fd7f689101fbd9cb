-- Dialogues at a server whose lists of addresses change, computed.
use Rattle.std.specs.Prelude.{◌≡◌, refl, ℕ, Bool, true, false, not, List, [], ◌∷◌, ◌++◌, take, drop, Some, codes, map}
use Rattle.std.specs.List.{list_any}
use Rattle.std.specs.Str.{bytes_eq}
use Rattle.protocol.specs.Access.{Token}
use Rattle.protocol.specs.Catalog.{Station, Entry, Config, is_same_but_for_access}
use Rattle.protocol.specs.Client.{Taken}
use Rattle.protocol.specs.Packet.{packet}
use Rattle.protocol.specs.World.{Event, Handed, config_after, handed}
use Rattle.protocol.specs.World.Event.{Open, Bytes, Take, Arrive, Reload}
use Rattle.protocol.specs.Alone.{OwnEvent, alone, own_view, seen, handed_to, restricted, all_restricted}
use Rattle.protocol.specs.Alone.{reloads_accepted}
use Rattle.protocol.specs.Alone.OwnEvent.{OwnCut}
use Rattle.protocol.proofs.Dialogues.{ape, wlf, vault, ape_entry, open_entry, config_of, three_stations, insider}
use Rattle.protocol.proofs.Dialogues.{outsider, ape_at, wlf_at, asks, takes, both_named, ok}
use Rattle.protocol.proofs.OrderDialogues.{shut, four_stations, shut_record}

-- a station with a list of its own
abbrev only_from : Station → List Token → Entry
only_from s tokens = record { station = s; access = Some tokens }

-- 10.0.0.0/8, 10.0.0.0/9 and 192.0.2.1
abbrev ten : List Token
ten = record { address = 0x0A000000; mask = 0xFF000000 } ∷ []

abbrev half_of_ten : List Token
half_of_ten = record { address = 0x0A000000; mask = 0xFF800000 } ∷ []

abbrev stranger : List Token
stranger = record { address = 0xC0000201; mask = 0xFFFFFFFF } ∷ []

-- what another client is handed
abbrev gives_to : ℕ → List ℕ → Handed
gives_to k bytes = record { client = k; bytes = bytes; ended = false }

abbrev ended_to : ℕ → Handed
ended_to k = record { client = k; bytes = []; ended = true }

-- The second station is closed to all but 10.0.0.0/8.
abbrev wlf_closed : Config
wlf_closed = config_of (ape_entry ∷ only_from wlf ten ∷ open_entry vault ∷ [])

abbrev named_wlf : List (List ℕ)
named_wlf = codes "STATION WLF GE" ∷ codes "DATA" ∷ codes "END" ∷ []

-- Two clients are in a transfer of a station, and it is closed to the first, who has taken one byte of a packet.
abbrev closed_within_a_packet : List Event
closed_within_a_packet =
    Open outsider ∷ Open insider ∷ asks 0 named_wlf ++ asks 1 named_wlf ++ Arrive (wlf_at 1) ∷ Take 0 1
    ∷ Reload wlf_closed
    ∷ Take 0 520 ∷ Take 0 520 ∷ Arrive (wlf_at 2) ∷ Take 0 520 ∷ Take 1 520 ∷ Take 1 520 ∷ Take 1 520 ∷ []

-- The first is handed the rest of the packet and no more, and the other goes on.
pub cut_within_a_packet : drop 6 (handed three_stations closed_within_a_packet) ≡
    (gives_to 0 (codes "S") ∷ gives_to 0 (drop 1 (packet 0xFFFFFE (wlf_at 1))) ∷ ended_to 0 ∷ ended_to 0
    ∷ gives_to 1 (packet 0xFFFFFE (wlf_at 1)) ∷ gives_to 1 (packet 0xFFFFFF (wlf_at 2)) ∷ gives_to 1 [] ∷ [])
cut_within_a_packet = refl

-- It is an event of the first one's own, and of no one else's.
abbrev is_cut : OwnEvent → Bool
is_cut OwnCut = true
is_cut _ = false

pub cut_alone : map (λ k. list_any is_cut (seen three_stations closed_within_a_packet k)) (0 ∷ 1 ∷ [])
    ≡ (true ∷ false ∷ [])
cut_alone = refl

-- What is cut in negotiation is still handed the reply that waits, and its unread bytes are dropped.
pub cut_before_a_transfer : handed three_stations
    (Open outsider ∷ Bytes 0 (codes "STATION WLF GE" ++ 13 ∷ codes "CAT" ++ 13 ∷ []) ∷ Reload wlf_closed
    ∷ takes 3 0 520) ≡
    (ok ∷ ended_to 0 ∷ ended_to 0 ∷ [])
cut_before_a_transfer = refl

-- A narrower list under which neither client sees anything else cuts no one.
abbrev ape_narrowed : Config
ape_narrowed = config_of (only_from ape half_of_ten ∷ open_entry wlf ∷ open_entry vault ∷ [])

abbrev two_transfers : List Event → List Event
two_transfers es = Open insider ∷ Open outsider ∷ both_named ++ asks 1 named_wlf ++ Arrive (ape_at 1) ∷ Take 0 7 ∷ es
    ++ Arrive (wlf_at 1) ∷ Take 0 520 ∷ Take 0 520 ∷ Take 1 520 ∷ Take 1 520 ∷ []

-- what the two are handed in their transfers
abbrev undisturbed : List Handed
undisturbed =
    gives_to 0 (take 7 (packet 0 (ape_at 1))) ∷ gives_to 0 (drop 7 (packet 0 (ape_at 1)))
    ∷ gives_to 0 (packet 0xFFFFFE (wlf_at 1))
    ∷ gives_to 1 (packet 0xFFFFFE (wlf_at 1)) ∷ gives_to 1 [] ∷ []

pub undisturbed_without : drop 8 (handed three_stations (two_transfers [])) ≡ undisturbed
undisturbed_without = refl

pub narrowed_for_neither : drop 8 (handed three_stations (two_transfers (Reload ape_narrowed ∷ []))) ≡ undisturbed
narrowed_for_neither = refl

pub narrowed_is_in_force : config_after three_stations (two_transfers (Reload ape_narrowed ∷ [])) ≡ ape_narrowed
narrowed_is_in_force = refl

-- Another capacity is refused, also where the same lists would cut a client.
abbrev ape_larger : Config
ape_larger = config_of (only_from (record ape { capacity = 5 }) ten ∷ only_from wlf ten ∷ open_entry vault ∷ [])

pub larger_is_refused : is_same_but_for_access three_stations ape_larger ≡ false
larger_is_refused = refl

pub refused_changes_nothing : drop 8 (handed three_stations (two_transfers (Reload ape_larger ∷ []))) ≡ undisturbed
refused_changes_nothing = refl

pub refused_is_not_in_force : config_after three_stations (two_transfers (Reload ape_larger ∷ [])) ≡ three_stations
refused_is_not_in_force = refl

-- A station that no one sees is opened to somebody else: the first client's bytes are the same, with that station and
-- without.
abbrev shut_opened : Config
shut_opened = config_of (ape_entry ∷ open_entry wlf ∷ open_entry vault ∷ only_from shut.station stranger ∷ [])

abbrev opened_to_another : List Event
opened_to_another =
    Open insider ∷ both_named ++ Arrive (ape_at 1) ∷ Take 0 7 ∷ Reload shut_opened ∷ Open 0xC0000201
    ∷ Arrive shut_record
    ∷ Arrive (wlf_at 1) ∷ Take 0 520 ∷ Take 0 520 ∷ Take 0 520 ∷ []

abbrev has_another_code : Entry → Bool
has_another_code e = not (bytes_eq e.station.code (codes "SHUT"))

-- what it is handed in its transfer
abbrev in_transfer : List Taken
in_transfer = map (λ bytes. record { bytes = bytes; ended = false })
    (take 7 (packet 0 (ape_at 1)) ∷ drop 7 (packet 0 (ape_at 1)) ∷ packet 0xFFFFFE (wlf_at 1) ∷ [] ∷ [])

pub opened_to_another_beside : drop 5 (handed_to 0 (handed four_stations opened_to_another)) ≡ in_transfer
opened_to_another_beside = refl

pub opened_to_another_alone : drop 5
    (alone (own_view four_stations opened_to_another 0) (seen four_stations opened_to_another 0)) ≡ in_transfer
opened_to_another_alone = refl

pub opened_to_another_without_it : drop 5
    (handed_to 0
    (handed (restricted has_another_code four_stations) (all_restricted has_another_code opened_to_another)))
    ≡ in_transfer
opened_to_another_without_it = refl

pub opened_to_another_is_accepted : reloads_accepted four_stations opened_to_another ≡ (true ∷ [])
opened_to_another_is_accepted = refl

pub opened_to_another_is_accepted_without_it : reloads_accepted (restricted has_another_code four_stations)
    (all_restricted has_another_code opened_to_another) ≡ (true ∷ [])
opened_to_another_is_accepted_without_it = refl

pub opened_to_another_cuts_no_one : list_any is_cut (seen four_stations opened_to_another 0) ≡ false
opened_to_another_cuts_no_one = refl
