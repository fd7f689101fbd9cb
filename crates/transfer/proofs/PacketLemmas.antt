-- The packet of the record that comes next.
use Rattle.std.proofs.Common.{◌≡◌, ℕ, ◌<◌, ◌≤◌, true, ◌&&◌, List, [], ◌∷◌, length, Option, Some, None, option_map}
use Rattle.std.proofs.Common.{filter_map, slice_get, unwrap_or, refl, sym, ap, ap₂, subst, ◌∙◌, nat_le}
use Rattle.transfer.proofs.PositionLemmas.{Test, first_from}
use Rattle.std.specs.List.{list_any}
use Rattle.std.proofs.lemmas.Bool.{and_parts}
use Rattle.protocol.specs.Packet.{packet}
use Rattle.protocol.specs.Catalog.{Config, Station, Entry}
use Rattle.protocol.specs.History.{Arrival, Request, next, is_of, holds_and_wants, number_at}
use Rattle.protocol.specs.Client.{packet_for, packet_of}
use Rattle.protocol.proofs.FoundLemmas.{both, Found, first_position_found}
use Rattle.protocol.proofs.Places.{slice_get-seam}
use Rattle.catalog.specs.Places.{station_at, HasDistinctCodes}
use Rattle.station_ring.specs.Rings.{RingValue, held_at, number_at as ring_number}
use Rattle.station_ring.specs.declared.held.Held.{Held}
use Rattle.station_ring.specs.HeldRecords.{RingsValue, holdings_of, ring_of, IsArrival}
use Rattle.transfer.proofs.NextLemmas.{ring-within}
use Rattle.station_ring.proofs.RingsLemmas.{ring_is, same_codes}
use Rattle.sl_lines.specs.declared.actions.Action.{Action}
use Rattle.session_state.specs.NamedValues.{Choice}
use Rattle.session_state.specs.Choices.{request_in}
use Rattle.transfer.specs.Choosing.{IsArrived}

-- There is one place only whose station has an arrival.
one-place : (es : List Entry) → HasDistinctCodes es → (j k : ℕ) (a : Arrival) → k < length es
    → is_of (station_at es j) a ≡ true → is_of (station_at es k) a ≡ true → station_at es j ≡ station_at es k
one-place es distinct j k a within p q =
    ap (station_at es) (sym (distinct k j within (same_codes (station_at es k) (station_at es j) a q p)))

-- Where something is held and wanted, some request is of its station.
wanted-of : (p : ℕ) (later : List Arrival) (a : Arrival) (rs : List Request)
    → list_any (holds_and_wants p later a) rs ≡ true → list_any (λ r. is_of r.station a) rs ≡ true
wanted-of p later a [] e = absurd cc
wanted-of p later a (r ∷ rs) e =
    both (is_of r.station a) (λ y. rw y refl)
    (λ n. rw n (wanted-of p later a rs (rw n at e)))

-- What comes next is an arrival at a station that is asked for.
pub next-asked : (h : List Arrival) (rs : List Request) (q p : ℕ) (a : Arrival) → next h rs q ≡ Some p
    → slice_get h p ≡ Some a → list_any (λ r. is_of r.station a) rs ≡ true
next-asked h rs q p a e there =
    let wanted : Test = λ p later a. list_any (holds_and_wants p later a) rs in
    let late : Test = λ p later a. nat_le q p && wanted p later a in
    let found : Found late h p = first_position_found late h [] h p refl (sym (first_from wanted q h) ∙ e) in
    let here : slice_get h p ≡ Some found.arrival = ap₂ slice_get (sym found.whole) (sym found.at)
    ∙ slice_get-seam found.before found.arrival found.later in
    let same : found.arrival ≡ a = ap (λ o. unwrap_or o a) (sym here ∙ there) in
    subst (λ x. list_any (λ r. is_of r.station x) rs ≡ true) same
    (wanted-of p found.later found.arrival rs
    (and_parts (nat_le q p) (wanted p found.later found.arrival) found.says).1)

-- The packet by the requests is that of the station whose arrival it is.
packet-by : (config : Config) (h : List Arrival) (k p : ℕ) (a : Arrival) → HasDistinctCodes config.entries
    → k < length config.entries → is_of (station_at config.entries k) a ≡ true → (cs : List Choice)
    → list_any (λ r. is_of r.station a) (filter_map (request_in config) cs) ≡ true
    → packet_for h p a (filter_map (request_in config) cs)
    ≡ packet (number_at (station_at config.entries k) h p) a.bytes
packet-by config h k p a distinct within of_it [] e = absurd cc
packet-by config h k p a distinct within of_it (c ∷ cs) e =
    by c.action (packet-by config h k p a distinct within of_it cs) e
  where
    by : (o : Option Action)
        → (list_any (λ r. is_of r.station a) (filter_map (request_in config) cs) ≡ true
        → packet_for h p a (filter_map (request_in config) cs)
        ≡ packet (number_at (station_at config.entries k) h p) a.bytes)
        → list_any (λ r. is_of r.station a) (filter_map (request_in config) (record c { action = o } ∷ cs)) ≡ true
        → packet_for h p a (filter_map (request_in config) (record c { action = o } ∷ cs))
        ≡ packet (number_at (station_at config.entries k) h p) a.bytes
    by None rest q = rest q
    by (Some action) rest q =
        both (is_of (station_at config.entries c.station) a)
        (λ y. rw y
        (ap (λ s. packet (number_at s h p) a.bytes) (one-place config.entries distinct c.station k a within y of_it)))
        (λ n. rw n (rest (rw n at q)))

-- The packet of what comes next.
pub packet-next : (config : Config) (h : List Arrival) (cs : List Choice) (q number : ℕ) (x : Held)
    → HasDistinctCodes config.entries → IsArrived config h number x
    → next h (filter_map (request_in config) cs) q ≡ Some x.stamp
    → packet_of h (filter_map (request_in config) cs) x.stamp ≡ packet number x.bytes
packet-next config h cs q number x distinct arrived e =
    let is = arrived.arrives in
    ap (λ o. unwrap_or (option_map (λ a. packet_for h x.stamp a (filter_map (request_in config) cs)) o) []) is.is_there
    ∙ packet-by config h arrived.place x.stamp is.arrival distinct arrived.is_there is.of_station cs
    (next-asked h (filter_map (request_in config) cs) q x.stamp is.arrival e is.is_there)
    ∙ ap₂ packet (sym is.number_is) (sym is.bytes)

-- A record that is held at a place of a station's ring is an arrival there.
pub arrived-there : ((s : Station) (h : List Arrival) (place : ℕ) (x : Held) → 1 ≤ s.capacity
    → held_at (ring_of s h) place ≡ Some x → IsArrival s h (ring_number (ring_of s h) place) x)
    → (config : Config) (h : List Arrival) (rings : RingsValue) (station place : ℕ) (r : RingValue) (x : Held)
    → rings ≡ holdings_of config h → slice_get rings.rings station ≡ Some r → 1 ≤ r.capacity → held_at r place ≡ Some x
    → IsArrived config h (ring_number r place) x
arrived-there law config h rings station place r x holds there some held =
    let is : r ≡ ring_of (station_at config.entries station) h = ring_is config h station rings r holds (sym there) in
    let within : station < length config.entries = ring-within config h rings station r holds there in
    record {
      place = station;
      is_there = within;
      arrives =
          subst (λ (y : RingValue). IsArrival (station_at config.entries station) h (ring_number y place) x) (sym is)
          (law (station_at config.entries station) h place x (subst (λ (y : RingValue). 1 ≤ y.capacity) is some)
          (subst (λ (y : RingValue). held_at y place ≡ Some x) is held));
    }
