-- The same client among others, beside a station that it does not see.
use Rattle.std.specs.Prelude.{◌≡◌, refl, ℕ, List, ◌∷◌, ◌++◌, codes, replicate}
use Rattle.protocol.specs.World.{Event, handed}
use Rattle.protocol.specs.World.Event.{Open, Take, Close, Arrive}
use Rattle.protocol.specs.Alone.{handed_to}
use Rattle.protocol.proofs.Dialogues.{insider, outsider, ape_at, wlf_at, says, takes, both_named}
use Rattle.protocol.proofs.OrderDialogues.{four_stations, shut_record, taken}

-- forty arrivals at a station that nobody sees, and three clients that come and go
abbrev pub often : ℕ → Event → List Event
often n e = replicate n e

abbrev pub mixed : List Event
mixed =
    Open insider ∷ often 10 (Arrive shut_record) ++ Open outsider ∷ says (codes "DATA") 1 ∷ both_named
    ++ often 10 (Arrive shut_record) ++ Open insider ∷ says (codes "CAT") 2 ∷ Arrive (ape_at 1) ∷ Arrive (wlf_at 1)
    ∷ Take 1 7 ∷ Take 2 520 ∷ Arrive (ape_at 2) ∷ often 10 (Arrive shut_record) ++ Close 1 ∷ Open outsider
    ∷ Arrive (wlf_at 2) ∷ Close 2 ∷ often 10 (Arrive shut_record) ++ Take 3 1 ∷ takes 1000 0 1 ++ Close 3
    ∷ takes 1081 0 1

pub same_among_others : handed_to 0 (handed four_stations mixed) ≡ taken
same_among_others = refl
