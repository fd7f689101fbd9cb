-- Events and what is handed, as the definitions have them.
use Rattle.std.specs.Prelude.{ℕ, Bool, true, false, List, [], ◌∷◌, take, slice_get, Option, Some, None}
use Rattle.std.specs.Net.Addr.{ipv4_bits}
use Rattle.protocol.specs.World.{Event as ProtocolEvent, Handed as ProtocolHanded, World, told, taken_by, client_of}
use Rattle.protocol.specs.World.Event.{Open as ProtocolOpen, Bytes as ProtocolBytes, Take as ProtocolTake}
use Rattle.protocol.specs.World.Event.{Close as ProtocolClose, Arrive as ProtocolArrive, Reload as ProtocolReload}
use Rattle.protocol.specs.Catalog.{Config}
use Rattle.protocol.specs.Alone.{own_view, seen, handed_to}
use Rattle.protocol.specs.Offers.{arrivals, client_after, offers, bytes_since}
use Rattle.protocol.specs.Transfers.{KeepsUp, MissesAreOverruns, HandsItsChoices, MissesNothing}
use Rattle.protocol.specs.Client.{Client}
use Rattle.server_core.specs.declared.client.Offer.{Offer}
use Rattle.server_core.specs.declared.client.Offer.TheVariants.{Bytes as OfferBytes, Ended, Idle}
use Rattle.server_core.specs.declared.events.Event.{Event}
use Rattle.server_core.specs.declared.events.Event.TheVariants.{Open, Bytes, Take, Close, Arrive, Reload}
use Rattle.server_core.specs.declared.events.Handed.{Handed}

abbrev pub event_value : Event → ProtocolEvent
event_value (Open address) = ProtocolOpen (ipv4_bits address)
event_value (Bytes client bytes) = ProtocolBytes client bytes.items
event_value (Take client count) = ProtocolTake client count
event_value (Close client) = ProtocolClose client
event_value (Arrive bytes) = ProtocolArrive bytes
event_value (Reload config) = ProtocolReload config

abbrev pub handed_value : Handed → ProtocolHanded
handed_value x = record { client = x.client; bytes = x.bytes.items; ended = x.ended }

-- the first bytes that wait for a client, at most so many
abbrev pub first_waiting : ℕ → Option Client → List ℕ
first_waiting n None = []
first_waiting n (Some c) = take n c.waiting

-- whether a client's connection is over, by what an offer to it is answered, and where none is answered
abbrev pub is_over_by : Option Offer → Bool
is_over_by None = true
is_over_by (Some OfferBytes) = false
is_over_by (Some Ended) = true
is_over_by (Some Idle) = false

-- what an event hands in a world
abbrev pub handed_by : World → ProtocolEvent → List ProtocolHanded
handed_by w (ProtocolTake k n) = told k (taken_by w.history (client_of (slice_get w.connections k)) n) ∷ []
handed_by w _ = []

-- A transfer of the k-th client misses a wanted record of those that it sees only where that was overrun, and what it
-- chooses is wanted, each once and in order of arrival, and is what is handed.
abbrev pub MissesOnlyOverruns : Config → List ProtocolEvent → ℕ → List ProtocolHanded → Type 0
MissesOnlyOverruns config es k hs =
    let v = own_view config es k in
    let own = seen config es k in
    MissesAreOverruns (arrivals own) (client_after v own) (offers v own)
    × HandsItsChoices (arrivals own) (client_after v own) (offers v own) (bytes_since v own (handed_to k hs))

-- Where the server at each of its offers holds all that may still be chosen and is wanted, it misses nothing.
abbrev pub MissesNothingThatIsHeld : Config → List ProtocolEvent → ℕ → List ProtocolHanded → Type 0
MissesNothingThatIsHeld config es k hs =
    let v = own_view config es k in
    let own = seen config es k in
    KeepsUp (offers v own) → MissesNothing (arrivals own) (client_after v own) (offers v own)
    (bytes_since v own (handed_to k hs))
