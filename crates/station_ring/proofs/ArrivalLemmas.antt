-- The arrivals of a station, by their positions.
use Rattle.std.proofs.Common.{◌≡◌, ℕ, ◌+◌, ◌-◌, ◌%◌, ◌≤◌, true, false, List, [], ◌∷◌, ◌++◌, length, take, filter}
use Rattle.std.proofs.Common.{slice_get, nat_lt, Some, None, suc, zero, refl, sym, ap, ◌∙◌, arith}
use Rattle.std.specs.Prelude.{if◌then◌else◌}
use Rattle.std.proofs.lemmas.List.Sums.{length-filter}
use Rattle.protocol.specs.Packet.{numbers}
use Rattle.protocol.specs.Catalog.{Station}
use Rattle.protocol.specs.History.{Arrival, is_of, count_of, number_at as number_in_history}
use Rattle.protocol.proofs.FoundLemmas.{both}
use Rattle.station_ring.specs.declared.held.Held.{Held}
use Rattle.station_ring.specs.Rings.{held_at, number_at}
use Rattle.station_ring.proofs.ReachLemmas.{held_at-holding_of}
use Rattle.station_ring.specs.HeldRecords.{IsArrival, arrivals_of, held_of, ring_of}

-- One arrival more in front is counted where it is the station's.
count_of-yes : (s : Station) (a : Arrival) (h : List Arrival) → is_of s a ≡ true → count_of s (a ∷ h) ≡ count_of s h + 1
count_of-yes s a h is =
    let both_counts : length (filter (is_of s) (a ∷ h)) ≡ length (filter (is_of s) h) + 1 = rw is (omega arith) in
    sym (length-filter (is_of s) (a ∷ h)) ∙ both_counts ∙ ap (λ n. n + 1) (length-filter (is_of s) h)

count_of-no : (s : Station) (a : Arrival) (h : List Arrival) → is_of s a ≡ false → count_of s (a ∷ h) ≡ count_of s h
count_of-no s a h other =
    let both_counts : length (filter (is_of s) (a ∷ h)) ≡ length (filter (is_of s) h) = rw other refl in
    sym (length-filter (is_of s) (a ∷ h)) ∙ both_counts ∙ length-filter (is_of s) h

-- As many as are counted.
pub length-arrivals_of : (s : Station) (p : ℕ) (h : List Arrival) → length (arrivals_of s p h) ≡ count_of s h
length-arrivals_of s p [] = refl
length-arrivals_of s p (a ∷ later) =
    let rest : length (arrivals_of s (p + 1) later) ≡ count_of s later = length-arrivals_of s (p + 1) later in
    both (is_of s a)
    (λ y. rw (count_of-yes s a later y, y) (omega arith))
    (λ n. rw (count_of-no s a later n, n) rest)

-- An arrival of the station is the last of its arrivals.
pub arrivals_of-more : (s : Station) (p : ℕ) (h : List Arrival) (a : Arrival) → is_of s a ≡ true
    → arrivals_of s p (h ++ a ∷ []) ≡ arrivals_of s p h ++ held_of (p + length h) a ∷ []
arrivals_of-more s p [] a is = let e : p + 0 ≡ p = omega arith in rw (is, e) refl
arrivals_of-more s p (b ∷ h) a is =
    let e : p + length (b ∷ h) ≡ p + 1 + length h = omega arith in
    rw (arrivals_of-more s (p + 1) h a is, e) (both (is_of s b) (λ y. rw y refl) (λ n. rw n refl))

-- Another station's is none of them.
pub arrivals_of-other : (s : Station) (p : ℕ) (h : List Arrival) (a : Arrival) → is_of s a ≡ false
    → arrivals_of s p (h ++ a ∷ []) ≡ arrivals_of s p h
arrivals_of-other s p [] a other = rw other refl
arrivals_of-other s p (b ∷ h) a other = rw (arrivals_of-other s (p + 1) h a other) refl

-- ---- which arrival is which

-- what a station's arrival with so many of its arrivals before it is, where the first of all is at position p
pub record Stands (s : Station) (p : ℕ) (h : List Arrival) (before : ℕ) (x : Held) : Type 0 where
  pub index : ℕ
  pub arrival : Arrival
  pub stamp : x.stamp ≡ p + index
  pub bytes : x.bytes ≡ arrival.bytes
  pub is_there : slice_get h index ≡ Some arrival
  pub of_station : is_of s arrival ≡ true
  pub count : count_of s (take index h) ≡ before

-- One arrival more in front, which is not the station's.
stands_behind_other : (s : Station) (p : ℕ) (a : Arrival) (h : List Arrival) (before : ℕ) (x : Held) → is_of s a ≡ false
    → Stands s (p + 1) h before x → Stands s p (a ∷ h) before x
stands_behind_other s p a h before x other there = record {
  index = suc there.index;
  arrival = there.arrival;
  stamp = let e = there.stamp in omega arith;
  bytes = there.bytes;
  is_there = there.is_there;
  of_station = there.of_station;
  count = count_of-no s a (take there.index h) other ∙ there.count;
}

-- One arrival more in front, which is the station's.
stands_behind : (s : Station) (p : ℕ) (a : Arrival) (h : List Arrival) (before : ℕ) (x : Held) → is_of s a ≡ true
    → Stands s (p + 1) h before x → Stands s p (a ∷ h) (suc before) x
stands_behind s p a h before x is there = record {
  index = suc there.index;
  arrival = there.arrival;
  stamp = let e = there.stamp in omega arith;
  bytes = there.bytes;
  is_there = there.is_there;
  of_station = there.of_station;
  count = count_of-yes s a (take there.index h) is ∙ ap (λ n. n + 1) there.count ∙ omega arith;
}

-- Each of the arrivals stands in the history.
pub stands : (s : Station) (p : ℕ) (h : List Arrival) (before : ℕ) (x : Held)
    → slice_get (arrivals_of s p h) before ≡ Some x → Stands s p h before x
stands s p [] before x there = absurd cc
stands s p (a ∷ h) before x there =
    both (is_of s a)
    (λ y. first y (stands s (p + 1) h) before x (rw y at there))
    (λ n. stands_behind_other s p a h before x n (stands s (p + 1) h before x (rw n at there)))
  where
    first : is_of s a ≡ true
        → ((before : ℕ) (x : Held) → slice_get (arrivals_of s (p + 1) h) before ≡ Some x → Stands s (p + 1) h before x)
        → (before : ℕ) (x : Held) → slice_get (held_of p a ∷ arrivals_of s (p + 1) h) before ≡ Some x
        → Stands s p (a ∷ h) before x
    first is rest zero x same =
        let here : held_of p a ≡ x = cc in
        record {
          index = 0;
          arrival = a;
          stamp = sym (ap (λ (y : Held). y.stamp) here) ∙ omega arith;
          bytes = sym (ap (λ (y : Held). y.bytes) here);
          is_there = refl;
          of_station = is;
          count = refl;
        }
    first is rest (suc before) x same = stands_behind s p a h before x is (rest before x same)

-- The number of an arrival is by how many of the station's came before it.
pub number_of_arrival : (s : Station) (h : List Arrival) (before : ℕ) (x : Held)
    → slice_get (arrivals_of s 0 h) before ≡ Some x → (s.first + before) % numbers ≡ number_in_history s h x.stamp
number_of_arrival s h before x there =
    let at : Stands s 0 h before x = stands s 0 h before x there in
    let stamp : x.stamp ≡ at.index = at.stamp ∙ omega arith in
    rw (stamp, at.count) refl

-- what is held at a place
pub held_arrival : (s : Station) (h : List Arrival) (place : ℕ) (x : Held) → 1 ≤ s.capacity
    → held_at (ring_of s h) place ≡ Some x → slice_get (arrivals_of s 0 h) place ≡ Some x
held_arrival s h place x some there =
    let whole : (if nat_lt (length (arrivals_of s 0 h) - (place + 1)) s.capacity then slice_get
    (arrivals_of s 0 h) place else None) ≡ Some x =
    sym (held_at-holding_of s.capacity s.first (arrivals_of s 0 h) place some) ∙ there in
    both (nat_lt (length (arrivals_of s 0 h) - (place + 1)) s.capacity) (λ y. rw y at whole)
    (λ n. absurd (let none : None ≡ Some x = rw n at whole in cc))

-- What is held at a place is an arrival of the station, and the place's number is the arrival's.
pub arrives_by_place : (s : Station) (h : List Arrival) (place : ℕ) (x : Held) → 1 ≤ s.capacity
    → held_at (ring_of s h) place ≡ Some x → IsArrival s h (number_at (ring_of s h) place) x
arrives_by_place s h place x some there =
    let among : slice_get (arrivals_of s 0 h) place ≡ Some x = held_arrival s h place x some there in
    let at : Stands s 0 h place x = stands s 0 h place x among in
    let stamp : at.index ≡ x.stamp = sym (at.stamp ∙ omega arith) in
    record {
      arrival = at.arrival;
      is_there = rw stamp at at.is_there;
      of_station = at.of_station;
      bytes = at.bytes;
      number_is = number_of_arrival s h place x among;
    }
