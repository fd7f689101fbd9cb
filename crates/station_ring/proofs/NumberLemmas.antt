-- Places by their numbers.
use Rattle.std.proofs.Common.{◌≡◌, ◌≢◌, ℕ, ◌+◌, ◌-◌, ◌%◌, ◌<◌, ◌≤◌, inl, inr, length, Some, None, suc, zero, arith}
use Rattle.std.proofs.Common.{refl, sym, ◌∙◌, ap, Option}
use Rattle.std.specs.Prelude.{◌↔◌}
use Rattle.std.proofs.lemmas.Bool.Decides.{eqb_tells}
use Rattle.protocol.specs.Reading.{Not}
use Rattle.protocol.specs.Packet.{numbers}
use Rattle.station_ring.specs.Rings.{RingValue, IsRing, first_place, number_at, place_among, place_with}

-- Numbers come again after all of them only.
pub same_place : (a b : ℕ) → a ≤ b → b < a + numbers → a % numbers ≡ b % numbers → a ≡ b
same_place a b low high e = omega arith

-- ---- what is found

-- a place of so many from one on, whose record has the number
pub record HasNumber (first number place count q : ℕ) : Type 0 where
  pub low : place ≤ q
  pub high : q < place + count
  pub same : (first + q) % numbers ≡ number

-- What is found has the number.
pub found : (first number place count q : ℕ) → place_among first number place count ≡ Some q
    → HasNumber first number place count q
found first number place zero q e = absurd cc
found first number place (suc count) q e =
    elim (eqb_tells ((first + place) % numbers) number) [
      | inl y ↦
          let is : Some place ≡ Some q = rw y.0 at e in
          let here : place ≡ q = cc in
          record { low = omega arith; high = omega arith; same = rw (sym here) y.1 }
      | inr n ↦
          let further : HasNumber first number (place + 1) count q = found first number (place + 1) count q
          (rw n.0 at e) in
          record { low = omega arith; high = omega arith; same = further.same }
    ]

-- Where what is found can't have the number, nothing is found.
none_of : (first number place count : ℕ) → ((q : ℕ) → Not (HasNumber first number place count q)) →
    (o : Option ℕ) → place_among first number place count ≡ o → o ≡ None
none_of first number place count none None e = refl
none_of first number place count none (Some q) e = absurd (none q (found first number place count q e))

-- A place that has the number is found, since no other one of so few has it.
pub finds : (first number place count q : ℕ) → count ≤ numbers → HasNumber first number place count q
    → place_among first number place count ≡ Some q
finds first number place zero q few there = absurd (omega arith)
finds first number place (suc count) q few there =
    elim (eqb_tells ((first + place) % numbers) number) [
      | inl y ↦
          let here : first + place ≡ first + q = same_place (first + place) (first + q) (omega arith) (omega arith)
          (y.1 ∙ sym there.same) in
          let is : place ≡ q = omega arith in
          rw y.0 (ap Some is)
      | inr n ↦
          let other : place ≢ q = λ is. n.1 (rw is there.same) in
          rw n.0
          (finds first number (place + 1) count q (omega arith)
          (record { low = omega arith; high = omega arith; same = there.same }))
    ]

-- Where no place has the number none is found.
pub none_found : (first number place count : ℕ) → ((q : ℕ) → Not (HasNumber first number place count q)) →
    place_among first number place count ≡ None
none_found first number place count none =
    none_of first number place count none (place_among first number place count) refl

-- A place is found by a number exactly where it is held and its record has that number.
pub place_with_law : (r : RingValue) (number place : ℕ) → IsRing r
    → (place_with r number ≡ Some place) ↔ ((first_place r ≤ place) × (place < r.pushes) × (number_at r place ≡ number))
place_with_law r number place holds =
    let few : length r.held ≤ numbers = rw holds.count (omega (arith, holds.small_capacity)) in
    let within : length r.held ≤ r.pushes = rw holds.count (omega arith) in (
      λ e. let there : HasNumber r.first number (first_place r) (length r.held) place =
          found r.first number (first_place r) (length r.held) place e in
          (there.low, omega arith, there.same),
      λ there. finds r.first number (first_place r) (length r.held) place few
          (record { low = there.0; high = omega arith; same = there.2 }),
    )

-- ---- the distance from the oldest place

-- Where a place is as far from the first one as its number is from the first one's, it has that number.
reached : (first number start count d : ℕ) → ((first + start) % numbers + d) % numbers ≡ number → d < count →
    HasNumber first number start count (start + d)
reached first number start count d there within = record { low = omega arith; high = omega arith; same = omega arith }

-- A ring, the place of its oldest record or of the next one, and how far behind that the next place with a number is.
pub record IsFrom (r : RingValue) (number start from d : ℕ) : Type 0 where
  pub holds : IsRing r
  pub start_is : start ≡ first_place r
  pub together : start + length r.held ≡ r.pushes
  pub from_is : from ≡ (r.first + start) % numbers
  pub there : (from + d) % numbers ≡ number
  pub next : d < numbers

-- Where that place is held it is the one that is found.
pub place_with-near : (r : RingValue) (number start from d : ℕ) → IsFrom r number start from d → d < r.pushes - start →
    place_with r number ≡ Some (start + d)
place_with-near r number start from d is within =
    let few : length r.held ≤ numbers = rw is.holds.count (omega (arith, is.holds.small_capacity)) in
    let there : ((r.first + start) % numbers + d) % numbers ≡ number = rw (← is.from_is) is.there in
    let count : d < length r.held = omega (arith, is.together) in
    rw (← is.start_is)
    (finds r.first number start (length r.held) (start + d) few
    (reached r.first number start (length r.held) d there count))

-- Else no held record has the number.
pub place_with-far : (r : RingValue) (number start from d : ℕ) → IsFrom r number start from d → r.pushes - start ≤ d →
    place_with r number ≡ None
place_with-far r number start from d is beyond =
    let few : length r.held ≤ numbers = rw is.holds.count (omega (arith, is.holds.small_capacity)) in
    let there : ((r.first + start) % numbers + d) % numbers ≡ number = rw (← is.from_is) is.there in
    let further : length r.held ≤ d = omega (arith, is.together) in
    let least : d < numbers = is.next in
    rw (← is.start_is) (none_found r.first number start (length r.held) (λ q has.
    let same : (r.first + q) % numbers ≡ (r.first + (start + d)) % numbers = omega (arith, has.same) in
    let low : r.first + q ≤ r.first + (start + d) = omega (arith, has.high) in
    let high : r.first + (start + d) < r.first + q + numbers = omega (arith, has.low) in
    let is_it : r.first + q ≡ r.first + (start + d) = same_place (r.first + q) (r.first + (start + d)) low high same in
    omega (arith, has.high)))
