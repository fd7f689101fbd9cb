-- What a push leaves at the places that were pushed before, and how stamps rise with places.
use Rattle.std.proofs.Common.{◌≡◌, ℕ, ◌+◌, ◌-◌, ◌<◌, ◌≤◌, List, [], ◌∷◌, ◌++◌, length, drop, Some, None, suc, zero}
use Rattle.std.proofs.Common.{arith, refl, sym, ap, ◌∙◌, length-append, length-drop, nat_le, slice_get, true}
use Rattle.std.proofs.lemmas.Bool.Decides.{leb_tells, nat_tests}
use Rattle.std.proofs.Common.{inl, inr}
use Rattle.station_ring.specs.declared.held.Held.{Held}
use Rattle.station_ring.specs.Rings.{RingValue, IsRing, Grows, first_place, held_at, pushed}
use Rattle.station_ring.proofs.ReachLemmas.{slice_get-drop}

-- what stands among the first items
slice_get-front : (xs ys : List Held) (i : ℕ) → i < length xs → slice_get (xs ++ ys) i ≡ slice_get xs i
slice_get-front [] ys i low = absurd (omega arith)
slice_get-front (x ∷ xs) ys zero low = refl
slice_get-front (x ∷ xs) ys (suc i) low = slice_get-front xs ys i (omega arith)

-- What is held at a place is what stands there among the items.
pub held_at-low : (r : RingValue) (place : ℕ) (x : Held) → held_at r place ≡ Some x
    → (first_place r ≤ place) × (slice_get r.held (place - first_place r) ≡ Some x)
held_at-low r place x there =
    elim (leb_tells (first_place r) place) [
      | inl y ↦ (y.1, rw y.0 at there)
      | inr n ↦ absurd (let none : None ≡ Some x = rw n.0 at there in cc)
    ]

-- At a place that was pushed before, a ring holds after one push more nothing else than it did.
pub pushed-grows : (r : RingValue) (item : Held) → IsRing r → Grows r (pushed r item)
pushed-grows r item holds = record { pushes = omega arith; held = there_before; same = λ e. absurd (omega arith) }
  where
    all : List Held
    all = r.held ++ item ∷ []

    gone : ℕ
    gone = length all - r.capacity

    there_before : (place : ℕ) (x : Held) → place < r.pushes → held_at (pushed r item) place ≡ Some x
        → held_at r place ≡ Some x
    there_before place x low there =
        let together : length all ≡ length r.held + 1 = length-append r.held (item ∷ []) in
        let left : length (drop gone all) ≡ length all - gone = length-drop gone all in
        let count = holds.count in
        let some = holds.some_capacity in
        let now = held_at-low (pushed r item) place x there in
        let first : first_place (pushed r item) ≡ first_place r + gone = omega arith in
        let after : first_place r ≤ place = omega (arith, now.0) in
        let test : nat_le (first_place r) place ≡ true = grind (arith, nat_tests) in
        let index : gone + (place - first_place (pushed r item)) ≡ place - first_place r = omega (arith, now.0) in
        rw test (
        sym (slice_get-front r.held (item ∷ []) (place - first_place r) (omega arith))
        ∙ ap (slice_get all) (sym index)
        ∙ sym (slice_get-drop gone (place - first_place (pushed r item)) all)
        ∙ now.1)
