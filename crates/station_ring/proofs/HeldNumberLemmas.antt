-- Held records by their numbers.
use Rattle.std.proofs.Common.{◌≡◌, ℕ, ◌+◌, ◌-◌, ◌%◌, ◌≤◌, Bool, true, false, List, [], ◌∷◌, length, drop, slice_get}
use Rattle.std.proofs.Common.{map}
use Rattle.std.proofs.Common.{nat_le, Option, Some, None, option_map, find, zero, suc, refl, sym, ap, ◌∙◌, arith}
use Rattle.std.proofs.Common.{length-drop}
use Rattle.std.specs.Prelude.{◌==◌}
use Rattle.std.specs.Option.{option_and_then}
use Rattle.std.proofs.lemmas.List.{take_all}
use Rattle.std.proofs.lemmas.Bool.Decides.{nat_tests}
use Rattle.protocol.specs.Packet.{numbers}
use Rattle.protocol.specs.Catalog.{Config, Entry, Station}
use Rattle.protocol.specs.History.{Arrival, held_with_number, oldest_held, from_number, number_at as number_in_history}
use Rattle.protocol.proofs.FoundLemmas.{both}
use Rattle.station_ring.specs.declared.held.Held.{Held}
use Rattle.station_ring.specs.Rings.{RingValue, first_place, held_at, number_at, place_among, place_with}
use Rattle.station_ring.proofs.NumberLemmas.{found}
use Rattle.station_ring.proofs.ReachLemmas.{slice_get-drop}
use Rattle.station_ring.specs.HeldRecords.{arrivals_of, holdings_of, next_numbers, numbers_after, ring_of}
use Rattle.station_ring.proofs.ArrivalLemmas.{length-arrivals_of, number_of_arrival}
use Rattle.station_ring.proofs.HistoryLemmas.{walk_all}

-- the stamp of what stands at a place, where the first item is at that place
abbrev stamp_from : (first_place : ℕ) → List Held → ℕ → Option ℕ
stamp_from start items place = option_map (λ x. x.stamp) (slice_get items (place - start))

-- One item more in front.
stamp_behind : (start : ℕ) (x : Held) (items : List Held) (place : Option ℕ)
    → ((q : ℕ) → place ≡ Some q → start + 1 ≤ q)
    → option_and_then (stamp_from (start + 1) items) place ≡ option_and_then (stamp_from start (x ∷ items)) place
stamp_behind start x items None low = refl
stamp_behind start x items (Some q) low =
    let e : q - start ≡ suc (q - (start + 1)) = omega (arith, low q refl) in rw e refl

-- What has a number among items is at the place that is found by the number.
find_among : (first number start : ℕ) (on_held : Held → Bool) (items : List Held)
    → ((j : ℕ) (x : Held) → slice_get items j ≡ Some x → on_held x ≡ ((first + (start + j)) % numbers == number))
    → option_map (λ x. x.stamp) (find on_held items)
    ≡ option_and_then (stamp_from start items) (place_among first number start (length items))
find_among first number start on_held [] same = refl
find_among first number start on_held (x ∷ items) same =
    let here : on_held x ≡ ((first + start) % numbers == number) = same 0 x refl
    ∙ ap (λ k. ((first + k) % numbers == number)) (omega arith) in
    let later : (j : ℕ) (y : Held) → slice_get items j ≡ Some y
    → on_held y ≡ ((first + (start + 1 + j)) % numbers == number) =
    λ j y at. same (suc j) y at ∙ ap (λ k. ((first + k) % numbers == number)) (omega arith) in
    let at_start : start - start ≡ 0 = omega arith in
    both ((first + start) % numbers == number)
    (λ y. rw (here, y, at_start) refl)
    (λ n. rw (here, n)
    (find_among first number (start + 1) on_held items later
    ∙ stamp_behind start x items (place_among first number (start + 1) (length items))
    (λ q e. (found first number (start + 1) (length items) q e).low)))

-- The j-th of the held records is the arrival at its place.
held_index : (s : Station) (h : List Arrival) (j : ℕ)
    → slice_get (ring_of s h).held j ≡ slice_get (arrivals_of s 0 h) (first_place (ring_of s h) + j)
held_index s h j =
    let items : List Held = arrivals_of s 0 h in
    let gone : ℕ = length items - s.capacity in
    let start : gone + j ≡ length items - length (drop gone items) + j = rw (length-drop gone items) (omega arith) in
    slice_get-drop gone j items ∙ ap (slice_get items) start

-- What is held with a number is what the ring has at the place that is found by it.
pub held_with_number-ring : (s : Station) (h : List Arrival) (number : ℕ)
    → held_with_number s h number ≡ option_and_then (λ place. option_map (λ x. x.stamp) (held_at (ring_of s h) place))
    (place_with (ring_of s h) number)
held_with_number-ring s h number =
    walk_all s h (λ p a. number_in_history s h p == number) (λ x. number_in_history s h x.stamp == number) (λ p a. refl)
    ∙ find_among s.first number (first_place (ring_of s h)) (λ x. number_in_history s h x.stamp == number)
    (ring_of s h).held
    (λ j x at. ap (λ k. (k == number))
    (sym (number_of_arrival s h (first_place (ring_of s h) + j) x (sym (held_index s h j) ∙ at))))
    ∙ held_found (ring_of s h) number
  where
    at_found : (r : RingValue) (place : Option ℕ) → ((q : ℕ) → place ≡ Some q → first_place r ≤ q)
        → option_and_then (stamp_from (first_place r) r.held) place
        ≡ option_and_then (λ place. option_map (λ x. x.stamp) (held_at r place)) place
    at_found r None low = refl
    at_found r (Some q) low =
        let within : first_place r ≤ q = low q refl in
        let test : nat_le (first_place r) q ≡ true = grind (arith, nat_tests) in
        rw test refl

    held_found : (r : RingValue) (number : ℕ)
        → option_and_then (stamp_from (first_place r) r.held) (place_with r number)
        ≡ option_and_then (λ place. option_map (λ x. x.stamp) (held_at r place)) (place_with r number)
    held_found r number = at_found r (place_with r number)
        (λ q e. (found r.first number (first_place r) (length r.held) q e).low)

-- The number that a ring's next record is to have is the station's next one.
pub next_number-ring : (s : Station) (h : List Arrival)
    → number_at (ring_of s h) (ring_of s h).pushes ≡ number_in_history s h (length h)
next_number-ring s h = rw (take_all (length h) h (omega arith), length-arrivals_of s 0 h) refl

-- The same of all stations.
numbers-rings : (h : List Arrival) (es : List Entry)
    → map (λ r. number_at r r.pushes) (map (λ e. ring_of e.station h) es)
    ≡ map (λ e. number_in_history e.station h (length h)) es
numbers-rings h [] = refl
numbers-rings h (e ∷ es) = ap (λ n. n ∷ map (λ r. number_at r r.pushes) (map (λ x. ring_of x.station h) es))
    (next_number-ring e.station h)
    ∙ ap (λ ns. number_in_history e.station h (length h) ∷ ns) (numbers-rings h es)

-- The next number of the ring at a place, where one is there.
pub number-at_place : (rs : List RingValue) (place : ℕ) (o : Option RingValue) → o ≡ slice_get rs place
    → option_map (λ r. number_at r r.pushes) o ≡ slice_get (map (λ r. number_at r r.pushes) rs) place
number-at_place [] place o e = ap (option_map (λ r. number_at r r.pushes)) e
number-at_place (r ∷ rs) zero o e = ap (option_map (λ r. number_at r r.pushes)) e
number-at_place (r ∷ rs) (suc place) o e = number-at_place rs place o e

pub numbers-held : (config : Config) (h : List Arrival) → next_numbers (holdings_of config h) ≡ numbers_after config h
unfolding holdings_of
numbers-held config h = numbers-rings h config.entries

-- ---- what is answered for a number

-- the stamp of what a ring holds at a place
abbrev position_by : RingValue → ℕ → Option ℕ
position_by r place = option_map (λ x. x.stamp) (held_at r place)

-- No place is found by the number.
pub position-none : (s : Station) (h : List Arrival) (number : ℕ) (r : RingValue) → r ≡ ring_of s h
    → None ≡ place_with r number → None ≡ held_with_number s h number
position-none s h number r is e =
    sym (held_with_number-ring s h number
    ∙ ap (option_and_then (position_by (ring_of s h))) (sym (e ∙ ap (λ r. place_with r number) is)))

-- A place is found by the number.
pub position-at : (s : Station) (h : List Arrival) (number : ℕ) (r : RingValue) (place : ℕ) (held : Option Held)
    → r ≡ ring_of s h → Some place ≡ place_with r number → held ≡ held_at r place
    → option_map (λ x. x.stamp) held ≡ held_with_number s h number
position-at s h number r place held is e at =
    ap (option_map (λ (x : Held). x.stamp)) (at ∙ ap (λ r. held_at r place) is)
    ∙ ap (option_and_then (position_by (ring_of s h))) (e ∙ ap (λ r. place_with r number) is)
    ∙ sym (held_with_number-ring s h number)

-- The number that is asked for is that of the next arrival, or it is not.
next_is : (s : Station) (h : List Arrival) (number : ℕ) (r : RingValue) (next : ℕ) (answer : Bool) → r ≡ ring_of s h
    → next ≡ number_at r r.pushes → answer ≡ (next == number) → (number_in_history s h (length h) == number) ≡ answer
next_is s h number r next answer is e same =
    sym (same ∙ ap (λ k. (k == number)) (e ∙ ap (λ r. number_at r r.pushes) is ∙ next_number-ring s h))

-- The number is not held, and the next arrival is to have it.
pub from-next : (s : Station) (h : List Arrival) (number : ℕ) (r : RingValue) (next : ℕ) → r ≡ ring_of s h
    → None ≡ held_with_number s h number → next ≡ number_at r r.pushes → true ≡ (next == number)
    → length h ≡ from_number s h number
from-next s h number r next is none e same =
    let gone : held_with_number s h number ≡ None = sym none in
    rw (gone, next_is s h number r next true is e same) refl

-- The number is not held, and the next arrival is to have another.
pub from-oldest : (s : Station) (h : List Arrival) (number : ℕ) (r : RingValue) (next : ℕ) → r ≡ ring_of s h
    → None ≡ held_with_number s h number → next ≡ number_at r r.pushes → false ≡ (next == number)
    → oldest_held s h ≡ from_number s h number
from-oldest s h number r next is none e other =
    let gone : held_with_number s h number ≡ None = sym none in
    rw (gone, next_is s h number r next false is e other) refl
