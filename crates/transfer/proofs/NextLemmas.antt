-- What comes next for named stations, by what their rings hold.
use Rattle.std.proofs.Common.{◌≡◌, ℕ, ◌+◌, ◌-◌, ◌<◌, zero, suc, Bool, true, false, ◌&&◌, List, [], ◌∷◌, ◌++◌, length}
use Rattle.std.proofs.Common.{map, take, Option, Some, None, option_map, filter_map, slice_get, get_or, add-one, refl}
use Rattle.std.proofs.Common.{sym, ap, ap₂, ◌∙◌, arith}
use Rattle.std.specs.Prelude.{find, is_some, nat_le}
use Rattle.std.proofs.lemmas.Bool.Decides.{nat_tests}
use Rattle.std.proofs.Math.Seq.{take-suc}
use Rattle.std.proofs.lemmas.List.{drop_all}
use Rattle.std.proofs.lemmas.List.Elements.{filter_map-append}
use Rattle.protocol.specs.Catalog.{Config, Station, Entry}
use Rattle.protocol.specs.History.{Arrival, first_position, next, is_held}
use Rattle.catalog.specs.Places.{station_at, nowhere}
use Rattle.station_ring.specs.declared.held.Held.{Held}
use Rattle.station_ring.specs.Rings.{RingValue, last_of}
use Rattle.station_ring.specs.HeldRecords.{RingsValue, holdings_of, held_of, ring_of, arrivals_of}
use Rattle.station_ring.proofs.RingsLemmas.{ring_is, station_is_nowhere}
use Rattle.sl_lines.specs.declared.actions.Action.{Action}
use Rattle.session_state.specs.NamedValues.{Choice}
use Rattle.session_state.specs.Choices.{request_in}
use Rattle.transfer.specs.Wanting.{wants_held}
use Rattle.transfer.specs.Choosing.{least_of, comes_before}
use Rattle.transfer.proofs.PositionLemmas.{next-none, next-append}
use Rattle.transfer.proofs.WantLemmas.{request_for, next-one}

-- ---- rings by their places

-- a station with a ring is there
pub ring-within : (config : Config) (h : List Arrival) (rings : RingsValue) (place : ℕ) (r : RingValue)
    → rings ≡ holdings_of config h → slice_get rings.rings place ≡ Some r → place < length config.entries
unfolding holdings_of
ring-within config h rings place r holds e =
    inside config.entries place (ap (λ (x : RingsValue). slice_get x.rings place) (sym holds) ∙ e)
  where
    inside : (es : List Entry) (k : ℕ) → slice_get (map (λ e. ring_of e.station h) es) k ≡ Some r → k < length es
    inside [] k q = absurd cc
    inside (x ∷ es) zero q = omega arith
    inside (x ∷ es) (suc k) q = let more : k < length es = inside es k q in omega arith

-- ---- the requests of one named station

pub asked-nothing : (config : Config) (c : Choice) → c.action ≡ None → filter_map (request_in config) (c ∷ []) ≡ []
asked-nothing config c e = rw e refl

pub asked-one : (config : Config) (c : Choice) (action : Action) → c.action ≡ Some action
    → filter_map (request_in config) (c ∷ []) ≡ request_for config c action ∷ []
asked-one config c action e = rw e refl

-- What the law of rings says: the first arrival that is held and passes a test is the first in the ring that does.
abbrev pub HeldInTheRing : Type 0
HeldInTheRing = (s : Station) (h : List Arrival) (test : ℕ → Arrival → Bool) (on_held : Held → Bool)
    → ((p : ℕ) (a : Arrival) → test p a ≡ on_held (held_of p a))
    → first_position (λ p later a. is_held s later a && test p a) 0 h
    ≡ option_map (λ x. x.stamp) (find on_held (ring_of s h).held)

-- an action that is there
pub asked-some : (o : Option Action) → is_some o ≡ true → (action : Action) × (o ≡ Some action)
asked-some None e = absurd cc
asked-some (Some a) e = (a, refl)

pub asked-none : (o : Option Action) → is_some o ≡ false → o ≡ None
asked-none None e = refl
asked-none (Some a) e = absurd cc

pub nothing-asked : (config : Config) (c : Choice) (h : List Arrival) (q : ℕ) → is_some c.action ≡ false
    → None ≡ next h (filter_map (request_in config) (c ∷ [])) q
nothing-asked config c h q e =
    sym (ap (λ rs. next h rs q) (asked-nothing config c (asked-none c.action e)) ∙ next-none h q)

-- Where the station is not there nothing is held.
none-held : (h : List Arrival) (on_held : Held → Bool) → find on_held (ring_of nowhere h).held ≡ None
none-held h on_held = ap (find on_held) (all-dropped (arrivals_of nowhere 0 h))
  where
    all-dropped : (xs : List Held) → last_of 0 xs ≡ []
    all-dropped xs = drop_all (length xs - 0) xs (omega arith)

pub nowhere-comes : HeldInTheRing → (config : Config) (c : Choice) (h : List Arrival) (rings : RingsValue) (q : ℕ)
    → is_some c.action ≡ true → rings ≡ holdings_of config h → slice_get rings.rings c.station ≡ None
    → None ≡ next h (filter_map (request_in config) (c ∷ [])) q
nowhere-comes law config c h rings q some holds none =
    let some_action = asked-some c.action some in
    let action : Action = some_action.0 in
    let asked : c.action ≡ Some action = some_action.1 in
    let e : station_at config.entries c.station ≡ nowhere =
    station_is_nowhere config h c.station rings holds (sym none) in
    sym (ap (λ rs. next h rs q) (asked-one config c action asked)
    ∙ next-one config c action h q asked (law (station_at config.entries c.station) h)
    ∙ ap (λ s. option_map (λ x. x.stamp) (find (wants_held c q) (ring_of s h).held)) e
    ∙ ap (option_map (λ x. x.stamp)) (none-held h (wants_held c q)))

pub first-comes : HeldInTheRing
    → (config : Config) (c : Choice) (h : List Arrival) (rings : RingsValue) (r : RingValue) (q : ℕ)
    → is_some c.action ≡ true → rings ≡ holdings_of config h → slice_get rings.rings c.station ≡ Some r
    → option_map (λ x. x.stamp) (find (wants_held c q) r.held) ≡ next h (filter_map (request_in config) (c ∷ [])) q
first-comes law config c h rings r q some holds there =
    let some_action = asked-some c.action some in
    let action : Action = some_action.0 in
    let asked : c.action ≡ Some action = some_action.1 in
    let e : r ≡ ring_of (station_at config.entries c.station) h =
    ring_is config h c.station rings r holds (sym there) in
    ap (λ (x : RingValue). option_map (λ y. y.stamp) (find (wants_held c q) x.held)) e
    ∙ sym (ap (λ rs. next h rs q) (asked-one config c action asked)
    ∙ next-one config c action h q asked (law (station_at config.entries c.station) h))

-- ---- of more stations

pub next-more : (config : Config) (h : List Arrival) (cs : List Choice) (c : Choice) (q : ℕ)
    → next h (filter_map (request_in config) (cs ++ c ∷ [])) q
    ≡ least_of (next h (filter_map (request_in config) cs) q) (next h (filter_map (request_in config) (c ∷ [])) q)
next-more config h cs c q = ap (λ rs. next h rs q) (filter_map-append (request_in config) cs (c ∷ []))
    ∙ next-append h (filter_map (request_in config) cs) (filter_map (request_in config) (c ∷ [])) q

-- What is to be sent first of those so far and of one more station.
pub lesser-found : (config : Config) (h : List Arrival) (cs : List Choice) (i : ℕ) (c : Choice) (q : ℕ)
    (best one : Option ℕ) → i < length cs → c ≡ get_or cs i c
    → best ≡ next h (filter_map (request_in config) (take i cs)) q
    → one ≡ next h (filter_map (request_in config) (c ∷ [])) q
    → least_of best one ≡ next h (filter_map (request_in config) (take (i + 1) cs)) q
lesser-found config h cs i c q best one low is e f =
    ap₂ least_of e f ∙ sym (next-more config h (take i cs) c q)
    ∙ ap (λ xs. next h (filter_map (request_in config) xs) q) (sym (take-more cs i c low is))
  where
    take-more : (cs : List Choice) (i : ℕ) (c : Choice) → i < length cs → c ≡ get_or cs i c
        → take (i + 1) cs ≡ take i cs ++ c ∷ []
    take-more cs i c low is = ap (λ n. take n cs) (add-one i) ∙ take-suc cs i c low
        ∙ ap (λ x. take i cs ++ x ∷ []) (sym is)

-- One that came before the best so far is the lesser.
pub before-best : (best : Option ℕ) (p : ℕ) → comes_before best p ≡ true → Some p ≡ least_of best (Some p)
before-best None p e = refl
before-best (Some b) p e = let le : nat_le b p ≡ false = grind (arith, nat_tests) in rw le refl

pub after-best : (best : Option ℕ) (p : ℕ) → comes_before best p ≡ false → best ≡ least_of best (Some p)
after-best None p e = absurd cc
after-best (Some b) p e = let le : nat_le b p ≡ true = grind (arith, nat_tests) in rw le refl

pub least-none : (best : Option ℕ) → best ≡ least_of best None
least-none None = refl
least-none (Some b) = refl
