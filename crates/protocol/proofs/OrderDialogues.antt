-- A dialogue with two stations whose records are sent in the order of arrival, byte after byte, and the same beside
-- hidden ones.
use Rattle.std.specs.Prelude.{◌≡◌, refl, ℕ, List, [], ◌∷◌, ◌++◌, Some, codes, map}
use Rattle.protocol.specs.Catalog.{Entry, Config}
use Rattle.protocol.specs.Client.{Taken}
use Rattle.protocol.specs.World.{Event, handed}
use Rattle.protocol.specs.World.Event.{Open, Arrive}
use Rattle.protocol.proofs.Dialogues.{insider, three_stations, record_at, ape_at, wlf_at, takes, both_named, in_order}

-- the events of the client by itself
abbrev pub own_events : List Event
own_events = Open insider ∷ both_named ++ Arrive (ape_at 1) ∷ Arrive (wlf_at 1) ∷ Arrive (ape_at 2) ∷ Arrive (wlf_at 2)
    ∷ takes 2081 0 1

abbrev pub shut : Entry
shut =
    record {
      station = record {
        network = codes "ZZ";
        code = codes "SHUT";
        description = codes "Closed";
        capacity = 1;
        first = 0;
      };
      access = Some [];
    }

abbrev pub four_stations : Config
four_stations = record three_stations { entries = three_stations.entries ++ shut ∷ [] }

abbrev pub shut_record : List ℕ
shut_record = record_at (codes "ZZ") (codes "SHUT") 0

abbrev pub taken : List Taken
taken = map (λ h. record { bytes = h.bytes; ended = h.ended }) in_order

pub sent_in_order_of_arrival : handed three_stations own_events ≡ in_order
sent_in_order_of_arrival = refl
