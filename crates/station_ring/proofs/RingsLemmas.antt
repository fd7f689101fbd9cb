-- The rings of all stations, by places.
use Rattle.std.proofs.Common.{◌≡◌, ◌≢◌, ℕ, ◌+◌, ◌<◌, ◌≤◌, true, false, List, [], ◌∷◌, ◌++◌, length, map, take, get_or}
use Rattle.std.proofs.Common.{slice_get, slice_set, Some, None, suc, zero, refl, sym, ap, ◌∙◌, arith, length-append}
use Rattle.std.specs.List.{refill}
use Rattle.std.specs.Str.{bytes_eq}
use Rattle.std.proofs.lemmas.Grind.{common_steps}
use Rattle.std.proofs.lemmas.List.{length-map, length-set, map-append, take_all, take_more}
use Rattle.std.proofs.lemmas.List.Elements.{All-map, All-same}
use Rattle.std.proofs.lemmas.Bool.{and_parts}
use Rattle.std.proofs.lemmas.Slice.Eq.{bytes_eq-Decides}
use Rattle.protocol.specs.Catalog.{Config, Entry, Station}
use Rattle.protocol.specs.History.{Arrival, is_of}
use Rattle.protocol.proofs.FoundLemmas.{both}
use Rattle.catalog.specs.Places.{station_at, nowhere, HasDistinctCodes, SameCodes}
use Rattle.station_ring.specs.declared.held.Held.{Held}
use Rattle.station_ring.specs.declared.held.Summary.{Summary}
use Rattle.station_ring.specs.Rings.{RingValue, empty, holding_of, last_of, pushed}
use Rattle.station_ring.proofs.PushLemmas.{empty-holding_of, pushed-holding_of}
use Rattle.station_ring.specs.HeldRecords.{RingsValue, AreBehind, IsBehind, arrivals_of, held_of, holdings_of, ring_of}
use Rattle.station_ring.specs.HeldRecords.{summary_of}
use Rattle.station_ring.proofs.HistoryLemmas.{last_of-nil}
use Rattle.station_ring.proofs.ArrivalLemmas.{arrivals_of-more, arrivals_of-other}

-- ---- one arrival more

-- The ring of its station has one push more.
pub ring_of-more : (s : Station) (h : List Arrival) (a : Arrival) → is_of s a ≡ true
    → pushed (ring_of s h) (held_of (length h) a) ≡ ring_of s (h ++ a ∷ [])
ring_of-more s h a is =
    let e : 0 + length h ≡ length h = omega arith in
    pushed-holding_of s.capacity s.first (arrivals_of s 0 h) (held_of (length h) a)
    ∙ ap (λ p. holding_of s.capacity s.first (arrivals_of s 0 h ++ held_of p a ∷ [])) (sym e)
    ∙ sym (ap (holding_of s.capacity s.first) (arrivals_of-more s 0 h a is))

-- The ring of another station is as it was.
pub ring_of-other : (s : Station) (h : List Arrival) (a : Arrival) → is_of s a ≡ false
    → ring_of s (h ++ a ∷ []) ≡ ring_of s h
ring_of-other s h a other = ap (holding_of s.capacity s.first) (arrivals_of-other s 0 h a other)

-- the rings of stations
abbrev pub rings_of : List Entry → List Arrival → List RingValue
rings_of es h = map (λ e. ring_of e.station h) es

-- The rings are as they were where the arrival is of no station.
rings_of-none : (es : List Entry) (h : List Arrival) (a : Arrival)
    → ((k : ℕ) → k < length es → is_of (station_at es k) a ≡ false) → rings_of es h ≡ rings_of es (h ++ a ∷ [])
rings_of-none [] h a others = refl
rings_of-none (e ∷ es) h a others =
    rw (ring_of-other e.station h a (others 0 (omega arith)))
    (ap (λ rings. ring_of e.station h ∷ rings) (rings_of-none es h a (λ k within. others (suc k) (omega arith))))

-- One ring has one push more where the arrival is of one station.
rings_of-one : (es : List Entry) (place : ℕ) (h : List Arrival) (a : Arrival) → place < length es
    → is_of (station_at es place) a ≡ true → ((k : ℕ) → k < length es → k ≢ place → is_of (station_at es k) a ≡ false)
    → slice_set (rings_of es h) place (pushed (ring_of (station_at es place) h) (held_of (length h) a))
    ≡ rings_of es (h ++ a ∷ [])
rings_of-one [] place h a within is others = absurd (omega arith)
rings_of-one (e ∷ es) zero h a within is others =
    rw (ring_of-more e.station h a is)
    (ap (λ rings. ring_of e.station (h ++ a ∷ []) ∷ rings)
    (rings_of-none es h a (λ k below. others (suc k) (omega arith) (λ same. absurd (omega arith)))))
rings_of-one (e ∷ es) (suc place) h a within is others =
    rw (ring_of-other e.station h a (others 0 (omega arith) (λ same. absurd (omega arith))))
    (ap (λ rings. ring_of e.station h ∷ rings)
    (rings_of-one es place h a (omega arith) is
    (λ k below apart. others (suc k) (omega arith) (λ same. apart (omega arith)))))

-- Two stations of which one arrival is have the same codes.
pub same_codes : (s t : Station) (a : Arrival) → is_of s a ≡ true → is_of t a ≡ true → SameCodes s t
same_codes s t a of_s of_t =
    let s_has = and_parts (bytes_eq s.network a.facts.network) (bytes_eq s.code a.facts.station) of_s in
    let t_has = and_parts (bytes_eq t.network a.facts.network) (bytes_eq t.code a.facts.station) of_t in (
      (bytes_eq-Decides s.network a.facts.network).0 s_has.0
          ∙ sym ((bytes_eq-Decides t.network a.facts.network).0 t_has.0),
      (bytes_eq-Decides s.code a.facts.station).0 s_has.1 ∙ sym ((bytes_eq-Decides t.code a.facts.station).0 t_has.1),
    )

-- Where no two stations have the same codes, the arrival is of one.
pub arrived : (es : List Entry) (place : ℕ) (h : List Arrival) (a : Arrival) → HasDistinctCodes es → place < length es
    → is_of (station_at es place) a ≡ true
    → slice_set (rings_of es h) place (pushed (ring_of (station_at es place) h) (held_of (length h) a))
    ≡ rings_of es (h ++ a ∷ [])
arrived es place h a distinct within is =
    rings_of-one es place h a within is
    (λ k below apart. both (is_of (station_at es k) a)
    (λ y. absurd (apart (distinct k place below (same_codes (station_at es k) (station_at es place) a y is))))
    (λ n. n))

-- ---- the ring at a place

-- The ring at a place is that of the place's station.
pub ring_at_place : (es : List Entry) (h : List Arrival) (place : ℕ) (r : RingValue)
    → slice_get (rings_of es h) place ≡ Some r → r ≡ ring_of (station_at es place) h
ring_at_place [] h place r there = absurd cc
ring_at_place (e ∷ es) h zero r there = cc
ring_at_place (e ∷ es) h (suc place) r there = ring_at_place es h place r there

-- No station is where no ring is.
pub nowhere_at_place : (es : List Entry) (h : List Arrival) (place : ℕ) → slice_get (rings_of es h) place ≡ None
    → station_at es place ≡ nowhere
nowhere_at_place [] h place there = refl
nowhere_at_place (e ∷ es) h zero there = absurd cc
nowhere_at_place (e ∷ es) h (suc place) there = nowhere_at_place es h place there

-- ---- what is held of a history

-- As many arrived as the history has.
pub arrivals_are : (config : Config) (h : List Arrival) (all : RingsValue) → all ≡ holdings_of config h
    → all.arrivals ≡ length h
unfolding holdings_of
arrivals_are config h all is = ap (λ x. x.arrivals) is

-- There is a ring for each station.
pub rings_count : (config : Config) (h : List Arrival) (all : RingsValue) → all ≡ holdings_of config h
    → length all.rings ≡ length config.entries
unfolding holdings_of
rings_count config h all is = ap (λ (x : RingsValue). length x.rings) is
    ∙ length-map config.entries (λ (e : Entry). ring_of e.station h)

-- the ring at a place
pub ring_is : (config : Config) (h : List Arrival) (place : ℕ) (all : RingsValue) (r : RingValue)
    → all ≡ holdings_of config h → Some r ≡ slice_get all.rings place → r ≡ ring_of (station_at config.entries place) h
unfolding holdings_of
ring_is config h place all r is at =
    ring_at_place config.entries h place r (sym (at ∙ ap (λ x. slice_get x.rings place) is))

-- no ring at a place
pub station_is_nowhere : (config : Config) (h : List Arrival) (place : ℕ) (all : RingsValue)
    → all ≡ holdings_of config h → None ≡ slice_get all.rings place → station_at config.entries place ≡ nowhere
unfolding holdings_of
station_is_nowhere config h place all is at =
    nowhere_at_place config.entries h place (sym (at ∙ ap (λ x. slice_get x.rings place) is))

-- ---- rings that are made

-- One ring more.
pub made-more : (es : List Entry) (i : ℕ) (e : Entry) (rings new : List RingValue) (r : RingValue) (capacity first : ℕ)
    → rings ≡ rings_of (take i es) [] → i < length es → e ≡ get_or es i e
    → r ≡ empty capacity first → capacity ≡ e.station.capacity → first ≡ e.station.first → new ≡ rings ++ r ∷ []
    → new ≡ rings_of (take (i + 1) es) []
made-more es i e rings new r capacity first before within is made same_capacity same_first push =
    let at : get_or es i e ≡ e = sym is in
    let ring : r ≡ ring_of e.station [] =
    made ∙ ap (λ n. empty n first) same_capacity ∙ ap (empty e.station.capacity) same_first
    ∙ empty-holding_of e.station.capacity e.station.first in
    rw (take_more es i e within, at, map-append (λ (x : Entry). ring_of x.station []) (take i es) (e ∷ []))
    (push ∙ ap (λ rs. rs ++ r ∷ []) before ∙ ap (λ x. rings_of (take i es) [] ++ x ∷ []) ring)

-- All are made.
pub made-all : (config : Config) (es : List Entry) (i : ℕ) (rings : List RingValue) → rings ≡ rings_of (take i es) []
    → length es ≤ i → es ≡ config.entries
    → (let x : RingsValue = record { rings = rings; arrivals = 0 } in x) ≡ holdings_of config []
unfolding holdings_of
made-all config es i rings before over same =
    ap (λ rs. let x : RingsValue = record { rings = rs; arrivals = 0 } in x)
    (before ∙ ap (λ l. rings_of l []) (take_all i es over ∙ same))

-- Nothing arrived, and nothing is held.
pub made-behind : (es : List Entry) (i : ℕ) (rings : List RingValue) → rings ≡ rings_of (take i es) []
    → AreBehind 0 rings
made-behind es i rings before =
    All-same (IsBehind 0) rings (rings_of (take i es) []) before
    (All-map (IsBehind 0) (λ (e : Entry). ring_of e.station []) (take i es)
    (λ k d within. empty_behind (get_or (take i es) k d).station))
  where
    empty_behind : (s : Station) → IsBehind 0 (ring_of s [])
    empty_behind s = record {
      pushes = omega arith;
      stamps =
          λ k d within. absurd (let none : length (last_of s.capacity []) ≡ 0 =
          ap length (last_of-nil s.capacity) in omega arith);
    }

-- ---- a record arrives

refilled : {X : Type 0} (xs ws : List X) → length ws ≡ length xs → refill (length xs) xs ws ≡ ws
refilled xs ws e = grind (arith, common_steps)

-- The ring of a station that is there.
ring_there : (es : List Entry) (h : List Arrival) (place : ℕ) → place < length es
    → slice_get (rings_of es h) place ≡ Some (ring_of (station_at es place) h)
ring_there [] h place within = absurd (omega arith)
ring_there (e ∷ es) h zero within = refl
ring_there (e ∷ es) h (suc place) within = ring_there es h place (omega arith)

-- The ring at a place that is there.
pub ring_of_place : (config : Config) (h : List Arrival) (place : ℕ) (all : RingsValue) → all ≡ holdings_of config h
    → place < length all.rings → slice_get all.rings place ≡ Some (ring_of (station_at config.entries place) h)
unfolding holdings_of
ring_of_place config h place all is within =
    let rings : all.rings ≡ rings_of config.entries h = ap (λ x. x.rings) is in
    let count : length all.rings ≡ length config.entries = rings_count config h all is in
    ap (λ rs. slice_get rs place) rings ∙ ring_there config.entries h place (omega arith)

-- The rings are those of the history with the arrival.
pub arrives : (config : Config) (h : List Arrival) (a : Arrival) (place : ℕ) (all : RingsValue) (rings : List RingValue)
    (n : ℕ) (item : Held) → n ≡ length all.rings → all ≡ holdings_of config h → HasDistinctCodes config.entries
    → is_of (station_at config.entries place) a ≡ true
    → place < length all.rings → item ≡ held_of all.arrivals a
    → rings ≡ slice_set all.rings place (pushed (ring_of (station_at config.entries place) h) item)
    → (let x : RingsValue = record { rings = refill n all.rings rings; arrivals = all.arrivals + 1 } in x)
    ≡ holdings_of config (h ++ a ∷ [])
unfolding holdings_of
arrives config h a place all rings n item len is distinct of_station within same made =
    let before : all.rings ≡ rings_of config.entries h = ap (λ x. x.rings) is in
    let count : length all.rings ≡ length config.entries = rings_count config h all is in
    let arrivals : all.arrivals ≡ length h = ap (λ x. x.arrivals) is in
    let kept : length rings ≡ length all.rings = ap length made
    ∙ length-set all.rings place (pushed (ring_of (station_at config.entries place) h) item) in
    let is_item : item ≡ held_of (length h) a = same ∙ ap (λ n. held_of n a) arrivals in
    let after : refill n all.rings rings ≡ rings_of config.entries (h ++ a ∷ []) =
    ap (λ k. refill k all.rings rings) len ∙ refilled all.rings rings kept ∙ made
    ∙ ap (λ rs. slice_set rs place (pushed (ring_of (station_at config.entries place) h) item)) before
    ∙ ap (λ x. slice_set (rings_of config.entries h) place (pushed (ring_of (station_at config.entries place) h) x))
    is_item
    ∙ arrived config.entries place h a distinct (omega arith) of_station in
    let more : all.arrivals + 1 ≡ length (h ++ a ∷ []) = simp length-append (omega arith) in
    ap (λ rs. let x : RingsValue = record { rings = rs; arrivals = all.arrivals + 1 } in x) after
    ∙ ap (λ n. let x : RingsValue = record { rings = rings_of config.entries (h ++ a ∷ []); arrivals = n } in x) more

-- what is held of an arrival
pub is_held_of : (n : ℕ) (a : Arrival) (bytes : List ℕ) (summary : Summary) → a.bytes ≡ bytes
    → summary_of a.facts ≡ summary
    → (let x : Held = record { stamp = n; bytes = bytes; summary = summary } in x) ≡ held_of n a
is_held_of n a bytes summary b s =
    ap (λ k. let x : Held = record { stamp = n; bytes = k; summary = summary } in x) (sym b)
    ∙ ap (λ k. let x : Held = record { stamp = n; bytes = a.bytes; summary = k } in x) (sym s)
