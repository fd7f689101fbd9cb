-- What a walk over a history finds, by what a walk over a ring finds.
use Rattle.std.proofs.Common.{◌≡◌, ℕ, ◌+◌, ◌-◌, ◌<◌, ◌≤◌, Bool, true, false, ◌&&◌, List, [], ◌∷◌, length, slice_get}
use Rattle.std.proofs.Common.{nat_lt, nat_le, max, Option, Some, None, option_map, unwrap_or, find, suc, refl, sym, ap}
use Rattle.std.proofs.Common.{◌∙◌, arith, ℤ, ltb-true}
use Rattle.std.specs.Prelude.{int_lt, ◌==◌}
use Rattle.std.specs.List.{list_any}
use Rattle.std.proofs.Math.Bool.{and-true}
use Rattle.std.proofs.lemmas.List.{drop_all}
use Rattle.std.proofs.lemmas.Bool.Decides.{nat_tests}
use Rattle.protocol.specs.Catalog.{Station}
use Rattle.std.proofs.lemmas.Option.{some_pair_parts}
use Rattle.catalog.specs.Places.{nowhere}
use Rattle.protocol.specs.History.{Arrival, is_of, is_held, count_of, first_position, holds_after, held_with_number}
use Rattle.protocol.specs.History.{oldest_held, from_number, number_at}
use Rattle.protocol.proofs.FoundLemmas.{both}
use Rattle.station_ring.specs.declared.held.Held.{Held}
use Rattle.station_ring.specs.Rings.{RingValue, last_of, held_from, first_place}
use Rattle.station_ring.specs.HeldRecords.{arrivals_of, held_of, ring_of}
use Rattle.station_ring.proofs.ArrivalLemmas.{length-arrivals_of}

-- ---- the last ones, with one item more in front

pub last_of-nil : (n : ℕ) → last_of n [] ≡ []
last_of-nil n = drop_all (0 - n) [] (omega arith)

-- It is among them.
last_of-kept : (n : ℕ) (x : Held) (xs : List Held) → length xs < n → last_of n (x ∷ xs) ≡ x ∷ last_of n xs
last_of-kept n x xs few =
    let with_it : length (x ∷ xs) - n ≡ 0 = omega arith in
    let without : length xs - n ≡ 0 = omega arith in
    rw (with_it, without) refl

-- It is not.
last_of-gone : (n : ℕ) (x : Held) (xs : List Held) → n ≤ length xs → last_of n (x ∷ xs) ≡ last_of n xs
last_of-gone n x xs many =
    let e : length (x ∷ xs) - n ≡ suc (length xs - n) = omega arith in rw e refl

-- The first of a station's arrivals is held.
first_kept : (s : Station) (p : ℕ) (a : Arrival) (later : List Arrival) → nat_lt (count_of s later) s.capacity ≡ true
    → last_of s.capacity (held_of p a ∷ arrivals_of s (p + 1) later)
    ≡ held_of p a ∷ last_of s.capacity (arrivals_of s (p + 1) later)
first_kept s p a later few =
    let below : count_of s later < s.capacity = ltb-true _ _ few in
    last_of-kept s.capacity (held_of p a) (arrivals_of s (p + 1) later) (rw (length-arrivals_of s (p + 1) later) below)

-- The first of a station's arrivals was let go.
first_gone : (s : Station) (p : ℕ) (a : Arrival) (later : List Arrival) → nat_lt (count_of s later) s.capacity ≡ false
    → last_of s.capacity (held_of p a ∷ arrivals_of s (p + 1) later) ≡ last_of s.capacity (arrivals_of s (p + 1) later)
first_gone s p a later many =
    let over : s.capacity ≤ count_of s later = grind (arith, nat_tests) in
    last_of-gone s.capacity (held_of p a) (arrivals_of s (p + 1) later) (rw (length-arrivals_of s (p + 1) later) over)

-- ---- walks

-- The first held arrival of which a test says yes is the first in the ring of which it says yes.
pub walk : (s : Station) (test : ℕ → Arrival → Bool) (on_held : Held → Bool)
    → ((p : ℕ) (a : Arrival) → test p a ≡ on_held (held_of p a)) → (p : ℕ) (h : List Arrival)
    → first_position (λ p later a. is_held s later a && test p a) p h
    ≡ option_map (λ x. x.stamp) (find on_held (last_of s.capacity (arrivals_of s p h)))
walk s test on_held same p [] = rw (last_of-nil s.capacity) refl
walk s test on_held same p (a ∷ later) =
    both (is_of s a)
    (λ y. both (nat_lt (count_of s later) s.capacity)
    (λ k. rw (
      y,
      k,
      first_kept s p a later k,
      same p a,
    ) (both (on_held (held_of p a)) (λ t. rw t refl) (λ f. rw f (walk s test on_held same (p + 1) later))))
    (λ g. rw (y, g, first_gone s p a later g) (walk s test on_held same (p + 1) later)))
    (λ n. rw n (walk s test on_held same (p + 1) later))

-- The same of the whole history.
pub walk_all : (s : Station) (h : List Arrival) (test : ℕ → Arrival → Bool) (on_held : Held → Bool)
    → ((p : ℕ) (a : Arrival) → test p a ≡ on_held (held_of p a))
    → first_position (λ p later a. is_held s later a && test p a) 0 h
    ≡ option_map (λ x. x.stamp) (find on_held (ring_of s h).held)
walk_all s h test on_held same = walk s test on_held same 0 h

-- An arrival is held that starts after a moment where the ring has one.
pub holds_after-last_of : (s : Station) (last : ℤ) (p : ℕ) (h : List Arrival)
    → holds_after s last h ≡ list_any (λ x. int_lt last x.summary.start) (last_of s.capacity (arrivals_of s p h))
holds_after-last_of s last p [] = rw (last_of-nil s.capacity) refl
holds_after-last_of s last p (a ∷ later) =
    both (is_of s a)
    (λ y. both (nat_lt (count_of s later) s.capacity)
    (λ k. rw (y, k, first_kept s p a later k, holds_after-last_of s last (p + 1) later) refl)
    (λ g. rw (y, g, first_gone s p a later g, holds_after-last_of s last (p + 1) later) refl))
    (λ n. rw (n, holds_after-last_of s last (p + 1) later) refl)

pub holds_after-ring : (s : Station) (last : ℤ) (h : List Arrival)
    → holds_after s last h ≡ list_any (λ x. int_lt last x.summary.start) (ring_of s h).held
holds_after-ring s last h = holds_after-last_of s last 0 h

-- ---- the oldest

-- Two tests that answer alike find the same.
first_position-alike : (f g : ℕ → List Arrival → Arrival → Bool)
    → ((p : ℕ) (later : List Arrival) (a : Arrival) → f p later a ≡ g p later a) → (p : ℕ) (h : List Arrival)
    → first_position f p h ≡ first_position g p h
first_position-alike f g same p [] = refl
first_position-alike f g same p (a ∷ later) =
    rw (same p later a, first_position-alike f g same (p + 1) later) refl

find_any : (xs : List Held) → find (λ x. true) xs ≡ slice_get xs 0
find_any [] = refl
find_any (x ∷ xs) = refl

-- The oldest held arrival is the first in the ring.
pub oldest_held-ring : (s : Station) (h : List Arrival)
    → oldest_held s h ≡ unwrap_or (option_map (λ x. x.stamp) (slice_get (ring_of s h).held 0)) (length h)
oldest_held-ring s h =
    ap (λ o. unwrap_or o (length h))
    (first_position-alike (λ p later a. is_held s later a) (λ p later a. is_held s later a && true)
    (λ p later a. sym (and-true (is_held s later a))) 0 h
    ∙ walk_all s h (λ p a. true) (λ x. true) (λ p a. refl)
    ∙ ap (option_map (λ (x : Held). x.stamp)) (find_any (ring_of s h).held))

-- what a ring has from its start on
pub held_from-start : (r : RingValue) → held_from r 0 ≡ option_map (λ x. (first_place r, x)) (slice_get r.held 0)
held_from-start r =
    let least : max 0 (first_place r) ≡ first_place r = omega arith in
    let within : nat_le (first_place r) (first_place r) ≡ true = grind (arith, nat_tests) in
    let start : first_place r - first_place r ≡ 0 = omega arith in
    rw (least, within, start) refl

-- What a ring has from its start on is the oldest held arrival.
pub oldest-found : (s : Station) (h : List Arrival) (place : ℕ) (x : Held)
    → ◌≡◌ {A = Option (ℕ × Held)} (Some (place, x)) (held_from (ring_of s h) 0) → x.stamp ≡ oldest_held s h
oldest-found s h place x e =
    let start : ℕ = first_place (ring_of s h) in
    let at : option_map {U = ℕ × Held} (λ (y : Held). (start, y)) (slice_get (ring_of s h).held 0)
    ≡ Some (place, x) = sym (e ∙ held_from-start (ring_of s h)) in
    first start (slice_get (ring_of s h).held 0) at ∙ sym (oldest_held-ring s h)
  where
    first : (start : ℕ) (o : Option Held) → option_map {U = ℕ × Held} (λ (y : Held). (start, y)) o ≡ Some (place, x)
        → x.stamp ≡ unwrap_or (option_map (λ y. y.stamp) o) (length h)
    first start None e = absurd cc
    first start (Some y) e = sym (ap (λ (z : Held). z.stamp) (some_pair_parts start place y x e).1)

-- Where a ring has nothing, nothing is held.
pub oldest-none : (s : Station) (h : List Arrival) → None ≡ held_from (ring_of s h) 0 → length h ≡ oldest_held s h
oldest-none s h e =
    let start : ℕ = first_place (ring_of s h) in
    let at : option_map {U = ℕ × Held} (λ (y : Held). (start, y)) (slice_get (ring_of s h).held 0)
    ≡ None = sym (e ∙ held_from-start (ring_of s h)) in
    first start (slice_get (ring_of s h).held 0) at ∙ sym (oldest_held-ring s h)
  where
    first : (start : ℕ) (o : Option Held) → option_map {U = ℕ × Held} (λ (y : Held). (start, y)) o ≡ None
        → length h ≡ unwrap_or (option_map (λ y. y.stamp) o) (length h)
    first start None e = refl
    first start (Some y) e = absurd cc

-- ---- a station that is not there

-- Nothing of it is held.
nothing_held : (h : List Arrival) → (ring_of nowhere h).held ≡ []
nothing_held h = drop_all (length (arrivals_of nowhere 0 h) - 0) (arrivals_of nowhere 0 h) (omega arith)

pub oldest_held-nowhere : (h : List Arrival) → length h ≡ oldest_held nowhere h
oldest_held-nowhere h =
    sym (oldest_held-ring nowhere h
    ∙ ap (λ items. unwrap_or (option_map (λ (x : Held). x.stamp) (slice_get items 0)) (length h)) (nothing_held h))

pub from_number-nowhere : (h : List Arrival) (number : ℕ) → length h ≡ from_number nowhere h number
from_number-nowhere h number =
    let none : held_with_number nowhere h number ≡ None =
    walk_all nowhere h (λ p a. number_at nowhere h p == number) (λ x. number_at nowhere h x.stamp == number)
    (λ p a. refl)
    ∙ ap (λ items. option_map (λ (x : Held). x.stamp) (find (λ x. number_at nowhere h x.stamp == number) items))
    (nothing_held h) in
    rw (none, ← oldest_held-nowhere h)
    (both (number_at nowhere h (length h) == number) (λ y. rw y refl) (λ n. rw n refl))

pub holds_after-nowhere : (h : List Arrival) (last : ℤ) → false ≡ holds_after nowhere last h
holds_after-nowhere h last =
    sym (holds_after-ring nowhere last h ∙ ap (list_any (λ (x : Held). int_lt last x.summary.start)) (nothing_held h))
