-- Where a request for a number begins, and what a push leaves of the rings.
use Rattle.std.proofs.Common.{◌≡◌, refl, ◌≢◌, ℕ, ◌+◌, ◌-◌, ◌<◌, ◌≤◌, false, Bool, List, [], ◌∷◌, length, Some, None}
use Rattle.std.proofs.Common.{suc}
use Rattle.std.proofs.Common.{zero, arith, sym, ap, subst, ◌∙◌, unwrap_or, slice_get, slice_set, get_or, All}
use Rattle.std.specs.Prelude.{◌==◌, if◌then◌else◌}
use Rattle.std.proofs.lemmas.Bool.Decides.{nat_tests}
use Rattle.protocol.proofs.FoundLemmas.{both}
use Rattle.station_ring.specs.declared.held.Held.{Held}
use Rattle.station_ring.specs.Rings.{RingValue, IsRing, Grows, first_place, held_at, number_at, place_with}
use Rattle.station_ring.proofs.GrowthLemmas.{held_at-low}
use Rattle.station_ring.proofs.NumberLemmas.{place_with_law}
use Rattle.station_ring.specs.HeldRecords.{AllGrow, GrowByOne, IsBefore, IsBehind, place_from}
use Rattle.station_ring.proofs.PlaceLemmas.{is_held}

-- Before the oldest place nothing is held.
pub before-oldest : (r : RingValue) (place position : ℕ) → place ≤ first_place r → IsBefore r place position
before-oldest r place position low =
    record { stamps = λ earlier x below there. absurd (let first = (held_at-low r earlier x there).0 in omega arith) }

-- What is held arrived before all that is to come.
pub before-next : (r : RingValue) (place arrivals : ℕ) → IsBehind arrivals r → IsBefore r place arrivals
before-next r place arrivals behind =
    record {
      stamps = λ earlier x below there. stamped r.held (earlier - first_place r) x
          (held_at-low r earlier x there).1 behind.stamps;
    }
  where
    stamped : (xs : List Held) (k : ℕ) (x : Held) → slice_get xs k ≡ Some x → All (λ h. h.stamp < arrivals) xs
        → x.stamp < arrivals
    stamped [] k x e all = absurd cc
    stamped (y ∷ xs) zero x e all = let here : y.stamp < arrivals =
        all 0 y (omega arith) in subst (λ o. (unwrap_or o x).stamp < arrivals) e here
    stamped (y ∷ xs) (suc k) x e all = stamped xs k x e (λ j d low. all (suc j) d (omega arith))

item-there : (xs : List Held) (k : ℕ) (x d : Held) → slice_get xs k ≡ Some x → (k < length xs) × (get_or xs k d ≡ x)
item-there [] k x d e = absurd cc
item-there (y ∷ xs) zero x d e = (omega arith, ap (λ o. unwrap_or o d) e)
item-there (y ∷ xs) (suc k) x d e = let there = item-there xs k x d e in (omega (arith, there.0), there.1)

-- What is held before a held record arrived before it.
pub before-held : (r : RingValue) (place : ℕ) (held : Held) → IsRing r → held_at r place ≡ Some held
    → IsBefore r place held.stamp
before-held r place held holds there = record { stamps = earlier_stamps }
  where
    earlier_stamps : (earlier : ℕ) (x : Held) → earlier < place → held_at r earlier ≡ Some x → x.stamp < held.stamp
    earlier_stamps earlier x below at =
        let low = held_at-low r earlier x at in
        let here = held_at-low r place held there in
        let first = item-there r.held (earlier - first_place r) x x low.1 in
        let second = item-there r.held (place - first_place r) held x here.1 in
        let index : earlier - first_place r < place - first_place r = omega (arith, low.0, here.0) in
        let rises = holds.rising (earlier - first_place r) (place - first_place r) x index second.0 in
        rw (first.1, second.1) at rises

-- ---- the place at which a request for a number begins

pub begins-found : (r : RingValue) (number place : ℕ) (held : Held) → IsRing r → Some place ≡ place_with r number
    → Some held ≡ held_at r place → IsBefore r (place_from r number) held.stamp
begins-found r number place held holds found there =
    let is : place_from r number ≡ place = ap
    (λ o. unwrap_or o (if number_at r r.pushes == number then r.pushes else first_place r)) (sym found) in
    rw is (before-held r place held holds (sym there))

pub begins-next : (r : RingValue) (number arrivals next : ℕ) (answer : Bool) → IsBehind arrivals r
    → IsBefore r (place_from r number) arrivals
begins-next r number arrivals next answer behind = before-next r (place_from r number) arrivals behind

pub begins-oldest : (r : RingValue) (number next position : ℕ) → place_with r number ≡ None
    → next ≡ number_at r r.pushes → false ≡ (next == number) → IsBefore r (place_from r number) position
begins-oldest r number next position none is other =
    let test : (number_at r r.pushes == number) ≡ false = ap (λ n. (n == number)) (sym is) ∙ sym other in
    let at : place_from r number ≡ first_place r = ap
    (λ o. unwrap_or o (if number_at r r.pushes == number then r.pushes else first_place r)) none
    ∙ ap (λ b. if b then r.pushes else first_place r) test in
    rw at (before-oldest r (first_place r) position (omega arith))

-- A place that is found by a number is held.
pub found-held : (r : RingValue) (number place : ℕ) → IsRing r → Some place ≡ place_with r number
    → None ≢ held_at r place
found-held r number place holds found none =
    let law = (place_with_law r number place holds).0 (sym found) in
    let there = is_held r place holds law.0 law.1 in
    let some : None ≡ Some there.item = none ∙ there.at in
    absurd cc

-- ---- a push

grows-same : (r : RingValue) → Grows r r
grows-same r = record { pushes = omega arith; held = λ place x low there. there; same = λ e. refl }

-- A ring that is put at a place changes no other place.
pub get-other : (rings : List RingValue) (place other : ℕ) (r : RingValue) → other ≢ place
    → slice_get (slice_set rings place r) other ≡ slice_get rings other
get-other [] place other r apart = refl
get-other (y ∷ rings) zero zero r apart = absurd (apart refl)
get-other (y ∷ rings) zero (suc other) r apart = refl
get-other (y ∷ rings) (suc place) zero r apart = refl
get-other (y ∷ rings) (suc place) (suc other) r apart = get-other rings place other r (λ e. apart (ap suc e))

-- One ring has grown.
pub grow-at : (rings : List RingValue) (place : ℕ) (b r : RingValue) → slice_get rings place ≡ Some b → Grows b r
    → AllGrow rings (slice_set rings place r)
grow-at [] place b r there grows k x at = absurd cc
grow-at (y ∷ rings) zero b r there grows zero x at =
    let same : r ≡ x = ap (λ o. unwrap_or o x) at in
    record { ring = b; is_there = there; grows = subst (λ (z : RingValue). Grows b z) same grows }
grow-at (y ∷ rings) zero b r there grows (suc k) x at = record { ring = x; is_there = at; grows = grows-same x }
grow-at (y ∷ rings) (suc place) b r there grows zero x at = record { ring = x; is_there = at; grows = grows-same x }
grow-at (y ∷ rings) (suc place) b r there grows (suc k) x at =
    let more = grow-at rings place b r there grows k x at in
    record { ring = more.ring; is_there = more.is_there; grows = more.grows }

-- how much longer a ring is at a place once another ring is put at one
longer-at : (rings : List RingValue) (place : ℕ) (p r : RingValue) → slice_get rings place ≡ Some p
    → r.pushes ≡ p.pushes + 1 → (i : ℕ) (a b : RingValue) → slice_get rings i ≡ Some a
    → slice_get (slice_set rings place r) i ≡ Some b
    → (b.pushes ≤ a.pushes + 1) × (i ≢ place → b.pushes ≡ a.pushes)
longer-at [] place p r there longer i a b was is = absurd cc
longer-at (y ∷ rings) zero p r there longer zero a b was is =
    let same : a ≡ p = ap (λ o. unwrap_or o a) (sym was ∙ there) in
    let new : b ≡ r = ap (λ o. unwrap_or o b) (sym is) in
    let pushes : a.pushes ≡ p.pushes = ap (λ (x : RingValue). x.pushes) same in
    let more : b.pushes ≡ r.pushes = ap (λ (x : RingValue). x.pushes) new in
    (omega arith, λ apart. absurd (apart refl))
longer-at (y ∷ rings) zero p r there longer (suc i) a b was is =
    let pushes : b.pushes ≡ a.pushes = ap (λ (x : RingValue). x.pushes) (ap (λ o. unwrap_or o b) (sym is ∙ was)) in
    (omega arith, λ apart. pushes)
longer-at (y ∷ rings) (suc place) p r there longer zero a b was is =
    let pushes : b.pushes ≡ a.pushes = ap (λ (x : RingValue). x.pushes) (ap (λ o. unwrap_or o b) (sym is ∙ was)) in
    (omega arith, λ apart. pushes)
longer-at (y ∷ rings) (suc place) p r there longer (suc i) a b was is =
    let step = longer-at rings place p r there longer i a b was is in
    (step.0, λ apart. step.1 (λ e. apart (ap suc e)))

-- no ring is new
none-new : (rings : List RingValue) (place : ℕ) (r : RingValue) (i : ℕ)
    → slice_get (slice_set rings place r) i ≡ None → slice_get rings i ≡ None
none-new [] place r i none = refl
none-new (y ∷ rings) zero r zero none = absurd cc
none-new (y ∷ rings) zero r (suc i) none = none
none-new (y ∷ rings) (suc place) r zero none = absurd cc
none-new (y ∷ rings) (suc place) r (suc i) none = none-new rings place r i none

-- A record more was pushed to one ring.
pub grow-one : (rings : List RingValue) (place : ℕ) (p r : RingValue) → slice_get rings place ≡ Some p
    → r.pushes ≡ p.pushes + 1 → GrowByOne rings (slice_set rings place r)
grow-one rings place p r there longer = record {
  two = λ i j a b x y apart was_i is_i was_j is_j.
      let first = longer-at rings place p r there longer i a b was_i is_i in
      let second = longer-at rings place p r there longer j x y was_j is_j in
      both (i == place)
      (λ e. let here : i ≡ place = grind (arith, nat_tests) in
      let other : j ≢ place = λ f. apart (here ∙ sym f) in
      omega (arith, first.0, second.1 other))
      (λ e. let other : i ≢ place = λ f. absurd (grind (arith, nat_tests)) in
      omega (arith, first.1 other, second.0));
  nowhere = λ i none. none-new rings place r i none;
}
