-- The same client between arrivals that it does not see and clients that come and go.
use Rattle.std.specs.Prelude.{◌+◌, ◌≡◌, refl, ℕ, List, [], ◌∷◌}
use Rattle.protocol.specs.World.{Event, handed}
use Rattle.protocol.specs.World.Event.{Open, Close, Arrive}
use Rattle.protocol.specs.Alone.{handed_to, seen, alone, own_view}
use Rattle.protocol.proofs.OrderDialogues.{four_stations, shut_record, taken, own_events}

-- between each two events a hidden arrival and a client that comes and goes
abbrev pub parted : ℕ → List Event → List Event
parted n [] = []
parted n (e ∷ es) = e ∷ Arrive shut_record ∷ Open 0xC0000201 ∷ Close n ∷ parted (n + 1) es

-- with the hidden station
pub same_between_hidden : handed_to 0 (handed four_stations (parted 1 own_events)) ≡ taken
same_between_hidden = refl

-- and by itself
pub same_alone : alone (own_view four_stations (parted 1 own_events) 0) (seen four_stations (parted 1 own_events) 0)
    ≡ taken
same_alone = refl
