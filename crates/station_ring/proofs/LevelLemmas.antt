-- How levels rise.
use Rattle.std.proofs.Common.{◌≡◌, ℕ, ◌+◌, ◌<◌, ◌≤◌, if◌then◌else◌, List, [], ◌∷◌}
use Rattle.std.proofs.Common.{length, get_or, map, slice_get, slice_set, Some, zero, suc, refl, sym, ap, ◌∙◌, arith}
use Rattle.std.specs.List.{sum_by}
use Rattle.std.proofs.lemmas.Bool.Decides.{nat_tests}
use Rattle.std.proofs.lemmas.List.Sums.{sum_by-cons}
use Rattle.protocol.specs.Catalog.{Config, Entry}
use Rattle.protocol.specs.History.{Arrival, count_of}
use Rattle.station_ring.specs.declared.held.Held.{Held}
use Rattle.station_ring.specs.Rings.{RingValue, pushed}
use Rattle.station_ring.specs.HeldRecords.{holdings_of, ring_of}
use Rattle.station_ring.specs.Levels.{is_raise, level, raises_after, raises_in, raises_of}
use Rattle.station_ring.proofs.ArrivalLemmas.{length-arrivals_of}

-- Nothing has the level 0.
pub level-none : level 0 ≡ 0
unfolding level
level-none = refl

-- One record more is on the same level, or on the next one if it is a raise.
pub level-more : (n : ℕ) → level (n + 1) ≡ level n + (if is_raise (n + 1) then 1 else 0)
unfolding level is_raise
level-more n = grind (arith, nat_tests)

-- the level of a ring
abbrev ring_level : RingValue → ℕ
ring_level r = level r.pushes

-- One push more at a place.
pub raises-push : (rings : List RingValue) (place : ℕ) (r : RingValue) (item : Held) → slice_get rings place ≡ Some r
    → raises_of (slice_set rings place (pushed r item))
    ≡ raises_of rings + (if is_raise (r.pushes + 1) then 1 else 0)
raises-push [] place r item there = absurd cc
raises-push (x ∷ xs) zero r item there =
    let same : x.pushes ≡ r.pushes = cc in
    let here : level x.pushes ≡ level r.pushes = ap level same in
    let more = level-more r.pushes in
    let after : raises_of (pushed r item ∷ xs) ≡ level (r.pushes + 1) + raises_of xs =
    sum_by-cons ring_level (pushed r item) xs in
    let before : raises_of (x ∷ xs) ≡ level x.pushes + raises_of xs = sum_by-cons ring_level x xs in
    let sums : level (r.pushes + 1) + raises_of xs ≡ raises_of (x ∷ xs) + (if is_raise (r.pushes + 1) then 1 else 0) =
    omega arith in
    after ∙ sums
raises-push (x ∷ xs) (suc place) r item there =
    let rest = raises-push xs place r item there in
    let after : raises_of (x ∷ slice_set xs place (pushed r item))
    ≡ level x.pushes + raises_of (slice_set xs place (pushed r item)) =
    sum_by-cons ring_level x (slice_set xs place (pushed r item)) in
    let before : raises_of (x ∷ xs) ≡ level x.pushes + raises_of xs = sum_by-cons ring_level x xs in
    let sums : level x.pushes + raises_of (slice_set xs place (pushed r item))
    ≡ raises_of (x ∷ xs) + (if is_raise (r.pushes + 1) then 1 else 0) = omega arith in
    after ∙ sums

-- The levels by the rings are those by the history.
raises-rings : (h : List Arrival) (es : List Entry)
    → raises_of (map (λ e. ring_of e.station h) es) ≡ sum_by (λ e. level (count_of e.station h)) es
raises-rings h [] = refl
raises-rings h (e ∷ es) =
    let there : List RingValue = map (λ x. ring_of x.station h) es in
    sum_by-cons ring_level (ring_of e.station h) there
    ∙ ap (λ n. level n + raises_of there) (length-arrivals_of e.station 0 h)
    ∙ ap (λ n. level (count_of e.station h) + n) (raises-rings h es)
    ∙ sym (sum_by-cons (λ (x : Entry). level (count_of x.station h)) e es)

pub raises-held : (config : Config) (h : List Arrival) → raises_in (holdings_of config h) ≡ raises_after config h
unfolding holdings_of
raises-held config h = raises-rings h config.entries

-- Before anything arrived each level is 0.
pub raises-none : (es : List Entry) → raises_of (map (λ e. ring_of e.station []) es) ≡ 0
raises-none [] = refl
raises-none (e ∷ es) =
    sum_by-cons ring_level (ring_of e.station []) (map (λ x. ring_of x.station []) es)
    ∙ ap (λ n. n + raises_of (map (λ x. ring_of x.station []) es)) level-none
    ∙ ap (λ n. 0 + n) (raises-none es)

-- The ring at a place that is there.
pub ring-there : (rings : List RingValue) (place : ℕ) (other : RingValue) → place < length rings
    → slice_get rings place ≡ Some (get_or rings place other)
ring-there [] place other within = absurd (omega arith)
ring-there (x ∷ xs) zero other within = refl
ring-there (x ∷ xs) (suc place) other within = ring-there xs place other (omega arith)

-- With more records the level is no lower.
pub level-grows : (a b : ℕ) → a ≤ b → level a ≤ level b
unfolding level
level-grows a b few = grind (arith, nat_tests, few)
