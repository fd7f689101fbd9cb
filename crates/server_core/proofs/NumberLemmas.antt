-- Open clients by rising number: where one is found, and what one more or one less of them does to the slots of the
-- others.
use Rattle.std.proofs.Common.{◌≡◌, ℕ, zero, suc, ◌+◌, ◌<◌, ◌≤◌, ◌==◌, nat_lt, false, if◌then◌else◌, List, [], ◌∷◌}
use Rattle.std.proofs.Common.{◌++◌, length, slice_index_or, Some, None, refl, sym, ap, subst, ◌∙◌, arith, eqb-true}
use Rattle.std.specs.List.{remove}
use Rattle.std.specs.List.Sorted.{IsSearchInRange, IsBinarySearchResult, IsNonDecreasingBy}
use Rattle.std.specs.Prelude.{IfSome}
use Rattle.std.specs.Result.{result_ok}
use Rattle.std.specs.Ordering.{nat_cmp, ordering_index}
use Rattle.std.specs.declared.result.Result.{Result}
use Rattle.std.specs.declared.result.Result.TheVariants.{Ok, Err}
use Rattle.std.proofs.lemmas.Cmp.{ranked}
use Rattle.std.proofs.lemmas.Bool.{eq-eqb, ltb-true, ltb-false}
use Rattle.std.specs.Net.Addr.{ipv4_bits}
use Rattle.std.proofs.lemmas.Bool.Decides.{nat_tests}
use Rattle.std.proofs.lemmas.List.{get_or_default}
use Rattle.std.proofs.lemmas.List.Sorted.{IsNonDecreasingBy-from_default}
use Rattle.protocol.proofs.FoundLemmas.{both}
use Rattle.server_core.specs.declared.clients.Opened.{Opened}
use Rattle.server_core.specs.Clients.{AreAbove, AreBelow, AreApart, AreRising, IsNumberAt, address_in, no_one}
use Rattle.server_core.specs.Clients.{number_at, slot_in}

-- ---- tests of numbers

is-not : (a b : ℕ) → a < b → (a == b) ≡ false
is-not a b lt = grind (arith, nat_tests)

is-not-above : (a b : ℕ) → b < a → (a == b) ≡ false
is-not-above a b lt = grind (arith, nat_tests)

differs : (a b : ℕ) → (a ≡ b → ⊥) → (a == b) ≡ false
differs a b apart = both (a == b) (λ yes. absurd (apart (eqb-true a b yes))) (λ no. no)

-- ---- rising numbers

above-at : (n : ℕ) (os : List Opened) → AreAbove n os → (j : ℕ) → j < length os → n < number_at os j
above-at n [] h j lt = absurd (omega (arith, lt))
above-at n (o ∷ os) h zero lt = h.0
above-at n (o ∷ os) h (suc j) lt = above-at n os h.1 j (omega (arith, lt))

rise : (os : List Opened) → AreRising os → (i j : ℕ) → i < j → j < length os → number_at os i < number_at os j
rise [] h i j lt inside = absurd (omega (arith, inside))
rise (o ∷ os) h i zero lt inside = absurd (omega (arith, lt))
rise (o ∷ os) h zero (suc j) lt inside = above-at o.number os h.0 j (omega (arith, inside))
rise (o ∷ os) h (suc i) (suc j) lt inside = rise os h.1 i j (omega (arith, lt)) (omega (arith, inside))

-- ---- the slot of a number

none-above : (n : ℕ) (os : List Opened) (k : ℕ) → k ≤ n → AreAbove n os → slot_in os k ≡ None
none-above n [] k le h = refl
none-above n (o ∷ os) k le h = rw (is-not-above o.number k (omega (arith, le, h.0))) (none-above n os k le h.1)

none-lower : (os : List Opened) (k : ℕ) → ((j : ℕ) → j < length os → number_at os j ≡ k → ⊥) → slot_in os k ≡ None
none-lower [] k h = refl
none-lower (o ∷ os) k h =
    rw (differs o.number k (h 0 (omega arith))) (none-lower os k (λ j lt e. h (suc j) (omega (arith, lt)) e))

pub slot_in-below : (n : ℕ) (os : List Opened) (k slot : ℕ) → AreBelow n os → slot_in os k ≡ Some slot → k < n
slot_in-below n [] k slot h e = absurd cc
slot_in-below n (o ∷ os) k slot h e =
    both (o.number == k)
    (λ yes. subst (λ m. m < n) (eqb-true o.number k yes) h.0)
    (λ no. slot_in-below n os k slot h.1 (rw no at e))

pub none-below : (n : ℕ) (os : List Opened) (k : ℕ) → n ≤ k → AreBelow n os → slot_in os k ≡ None
none-below n [] k le h = refl
none-below n (o ∷ os) k le h = rw (is-not o.number k (omega (arith, le, h.0))) (none-below n os k le h.1)

tail-at : (o : Opened) (os : List Opened) (n at : ℕ) → IsNumberAt (o ∷ os) n (suc at) → IsNumberAt os n at
tail-at o os n at is = record { inside = omega (arith, is.inside); has_number = is.has_number }

lower-than-later : (o : Opened) (os : List Opened) (n at : ℕ) → AreAbove o.number os → IsNumberAt os n at → o.number < n
lower-than-later o os n at h is = subst (λ m. o.number < m) is.has_number (above-at o.number os h at is.inside)

-- The slot at a number's place is the number's.
pub slot-at : (os : List Opened) (n at : ℕ) → AreRising os → IsNumberAt os n at
    → slot_in os n ≡ (let o : Opened = slice_index_or os at no_one in Some o.slot)
slot-at [] n at h is = absurd (omega (arith, is.inside))
slot-at (o ∷ os) n zero h is = rw (eq-eqb o.number n is.has_number) refl
slot-at (o ∷ os) n (suc at) h is =
    let later = tail-at o os n at is in
    rw (is-not o.number n (lower-than-later o os n at h.0 later)) (slot-at os n at h.1 later)

-- the slot of what is found there
pub its-slot-at : (os : List Opened) (n at : ℕ) (there : Opened) → AreRising os → IsNumberAt os n at
    → there ≡ slice_index_or os at there → slot_in os n ≡ Some there.slot
its-slot-at os n at there rising is e = slot-at os n at rising is
    ∙ sym (ap (λ (o : Opened). Some o.slot) (e ∙ get_or_default os at there no_one is.inside))

-- ---- where a number is found by halving

module _ (l : List Opened) (rising : AreRising l) (k : ℕ) where
  comparisons_rise : IsNonDecreasingBy (λ o. ordering_index (nat_cmp o.number k)) l
  comparisons_rise = IsNonDecreasingBy-from_default (λ o. ordering_index (nat_cmp o.number k)) l no_one
      (λ i j le in_range.
      let numbers_rise : number_at l i ≤ number_at l j = grind (
        arith,
        rise l rising i j,
        λ (same : i ≡ j). ap (number_at l) same,
      ) in
      grind (arith, nat_tests))

  -- what it ends with: the number's place, or the number has no slot
  pub searched : (r : Result ℕ ℕ) → IsSearchInRange r (length l) → IsBinarySearchResult (λ o. nat_cmp o.number k) l r →
      record { found : IfSome (result_ok r) (IsNumberAt l k); absent : result_ok r ≡ None → slot_in l k ≡ None }
  searched (Ok at) in_range equal =
      record {
        found = record { inside = in_range; has_number = ranked _ k _ (sym (equal no_one)) };
        absent = λ e. absurd cc;
      }
  searched (Err at) in_range parted = record {
    found = tt;
    absent = λ e. none-lower l k (λ j lt is. both (nat_lt j at)
        (λ before. let lower : number_at l j < k =
        ranked _ k _ (sym ((parted comparisons_rise).0 j no_one (omega arith) (grind (arith, nat_tests)))) in omega
        (arith, lower, is))
        (λ after. let higher : k < number_at l j =
        ranked _ k _ (sym ((parted comparisons_rise).1 j no_one (grind (arith, nat_tests)) lt)) in omega (
          arith,
          higher,
          is,
        )));
  }

-- ---- one more

pub slot_in-more : (os : List Opened) (o : Opened) (k : ℕ) → (o.number ≡ k → ⊥)
    → slot_in (os ++ o ∷ []) k ≡ slot_in os k
slot_in-more [] o k apart = rw (differs o.number k apart) refl
slot_in-more (x ∷ os) o k apart = ap (λ r. if x.number == k then Some x.slot else r) (slot_in-more os o k apart)

pub slot_in-new : (os : List Opened) (o : Opened) → AreBelow o.number os → slot_in (os ++ o ∷ []) o.number ≡ Some o.slot
slot_in-new [] o h = rw (eq-eqb o.number o.number refl) refl
slot_in-new (x ∷ os) o h = rw (is-not x.number o.number h.0) (slot_in-new os o h.1)

above-more : (n : ℕ) (os : List Opened) (o : Opened) → n < o.number → AreAbove n os → AreAbove n (os ++ o ∷ [])
above-more n [] o lt h = (lt, tt)
above-more n (x ∷ os) o lt h = (h.0, above-more n os o lt h.1)

pub rising-more : (os : List Opened) (o : Opened) → AreBelow o.number os → AreRising os → AreRising (os ++ o ∷ [])
rising-more [] o below h = (tt, tt)
rising-more (x ∷ os) o below h = (above-more x.number os o below.0 h.0, rising-more os o below.1 h.1)

pub below-more : (os : List Opened) (o : Opened) → AreBelow o.number os → AreBelow (o.number + 1) (os ++ o ∷ [])
below-more [] o h = (omega arith, tt)
below-more (x ∷ os) o h = (omega (arith, h.0), below-more os o h.1)

-- ---- one less

pub slot_in-gone : (os : List Opened) (n at : ℕ) → AreRising os → IsNumberAt os n at → slot_in (remove os at) n ≡ None
slot_in-gone [] n at h is = absurd (omega (arith, is.inside))
slot_in-gone (o ∷ os) n zero h is = none-above o.number os n (omega (arith, is.has_number)) h.0
slot_in-gone (o ∷ os) n (suc at) h is =
    let later = tail-at o os n at is in
    rw (is-not o.number n (lower-than-later o os n at h.0 later)) (slot_in-gone os n at h.1 later)

pub slot_in-less : (os : List Opened) (n at k : ℕ) → (k ≡ n → ⊥) → IsNumberAt os n at
    → slot_in (remove os at) k ≡ slot_in os k
slot_in-less [] n at k apart is = absurd (omega (arith, is.inside))
slot_in-less (o ∷ os) n zero k apart is = sym (rw (differs o.number k (λ e. apart (sym e ∙ is.has_number))) refl)
slot_in-less (o ∷ os) n (suc at) k apart is =
    ap (λ r. if o.number == k then Some o.slot else r) (slot_in-less os n at k apart (tail-at o os n at is))

above-less : (n : ℕ) (os : List Opened) (at : ℕ) → AreAbove n os → AreAbove n (remove os at)
above-less n [] zero h = tt
above-less n [] (suc at) h = tt
above-less n (o ∷ os) zero h = h.1
above-less n (o ∷ os) (suc at) h = (h.0, above-less n os at h.1)

pub rising-less : (os : List Opened) (at : ℕ) → AreRising os → AreRising (remove os at)
rising-less [] zero h = tt
rising-less [] (suc at) h = tt
rising-less (o ∷ os) zero h = h.1
rising-less (o ∷ os) (suc at) h = (above-less o.number os at h.0, rising-less os at h.1)

pub below-less : (n : ℕ) (os : List Opened) (at : ℕ) → AreBelow n os → AreBelow n (remove os at)
below-less n [] zero h = tt
below-less n [] (suc at) h = tt
below-less n (o ∷ os) zero h = h.1
below-less n (o ∷ os) (suc at) h = (h.0, below-less n os at h.1)

-- ---- the same of addresses
no-address-above : (n : ℕ) (os : List Opened) (k : ℕ) → k ≤ n → AreAbove n os → address_in os k ≡ None
no-address-above n [] k le h = refl
no-address-above n (o ∷ os) k le h =
    rw (is-not-above o.number k (omega (arith, le, h.0))) (no-address-above n os k le h.1)

pub no-address-below : (n : ℕ) (os : List Opened) (k : ℕ) → n ≤ k → AreBelow n os → address_in os k ≡ None
no-address-below n [] k le h = refl
no-address-below n (o ∷ os) k le h = rw (is-not o.number k (omega (arith, le, h.0))) (no-address-below n os k le h.1)

pub address_in-more : (os : List Opened) (o : Opened) (k : ℕ) → (o.number ≡ k → ⊥)
    → address_in (os ++ o ∷ []) k ≡ address_in os k
address_in-more [] o k apart = rw (differs o.number k apart) refl
address_in-more (x ∷ os) o k apart =
    ap (λ r. if x.number == k then Some (ipv4_bits x.address) else r) (address_in-more os o k apart)

pub address_in-new : (os : List Opened) (o : Opened) → AreBelow o.number os
    → address_in (os ++ o ∷ []) o.number ≡ Some (ipv4_bits o.address)
address_in-new [] o h = rw (eq-eqb o.number o.number refl) refl
address_in-new (x ∷ os) o h = rw (is-not x.number o.number h.0) (address_in-new os o h.1)

pub address_in-gone : (os : List Opened) (n at : ℕ) → AreRising os → IsNumberAt os n at
    → address_in (remove os at) n ≡ None
address_in-gone [] n at h is = absurd (omega (arith, is.inside))
address_in-gone (o ∷ os) n zero h is = no-address-above o.number os n (omega (arith, is.has_number)) h.0
address_in-gone (o ∷ os) n (suc at) h is =
    let later = tail-at o os n at is in
    rw (is-not o.number n (lower-than-later o os n at h.0 later)) (address_in-gone os n at h.1 later)

pub address_in-less : (os : List Opened) (n at k : ℕ) → (k ≡ n → ⊥) → IsNumberAt os n at
    → address_in (remove os at) k ≡ address_in os k
address_in-less [] n at k apart is = absurd (omega (arith, is.inside))
address_in-less (o ∷ os) n zero k apart is = sym (rw (differs o.number k (λ e. apart (sym e ∙ is.has_number))) refl)
address_in-less (o ∷ os) n (suc at) k apart is =
    ap (λ r. if o.number == k then Some (ipv4_bits o.address) else r)
    (address_in-less os n at k apart (tail-at o os n at is))

-- The address at a number's place is the number's.
pub address-at : (os : List Opened) (n at : ℕ) → AreRising os → IsNumberAt os n at
    → address_in os n ≡ (let o : Opened = slice_index_or os at no_one in Some (ipv4_bits o.address))
address-at [] n at h is = absurd (omega (arith, is.inside))
address-at (o ∷ os) n zero h is = rw (eq-eqb o.number n is.has_number) refl
address-at (o ∷ os) n (suc at) h is =
    let later = tail-at o os n at is in
    rw (is-not o.number n (lower-than-later o os n at h.0 later)) (address-at os n at h.1 later)

-- A number without a slot has no address.
pub no-address : (os : List Opened) (n : ℕ) → slot_in os n ≡ None → address_in os n ≡ None
no-address [] n none = refl
no-address (o ∷ os) n none =
    both (o.number == n) (λ y. absurd (let q : Some o.slot ≡ None = rw y at none in cc))
    (λ no. rw no (no-address os n (rw no at none)))

-- ---- slots at places
unfoldable pub slot_at : List Opened → ℕ → ℕ
slot_at os i = let o : Opened = slice_index_or os i no_one in o.slot

unfoldable pub bits_at : List Opened → ℕ → ℕ
bits_at os i = let o : Opened = slice_index_or os i no_one in ipv4_bits o.address

-- a number that has a slot stands at a place
pub record IsPlacedAt (os : List Opened) (k slot i : ℕ) : Type 0 where
  pub inside : i < length os
  pub has_slot : slot_at os i ≡ slot
  pub has_address : address_in os k ≡ Some (bits_at os i)

pub place-of : (os : List Opened) (k slot : ℕ) → slot_in os k ≡ Some slot → (i : ℕ) × IsPlacedAt os k slot i
unfolding slot_at bits_at
place-of [] k slot e = absurd cc
place-of (o ∷ os) k slot e =
    both (o.number == k)
    (λ y. let same : Some o.slot ≡ Some slot =
    rw y at e in (zero, record { inside = omega arith; has_slot = cc; has_address = rw y refl }))
    (λ n. let later = place-of os k slot (rw n at e) in (
      suc later.0,
      record {
        inside = let w = later.1.inside in omega (arith, w);
        has_slot = later.1.has_slot;
        has_address = rw n later.1.has_address;
      },
    ))

-- At different places are different slots.
pub slots-apart : (os : List Opened) → AreRising os → AreApart os → (i j : ℕ) → i < length os → j < length os
    → slot_at os i ≡ slot_at os j → i ≡ j
unfolding slot_at
slots-apart os rising apart i j lt lt' same =
    let first = slot-at os (number_at os i) i rising (record { inside = lt; has_number = refl }) in
    let second = slot-at os (number_at os j) j rising (record { inside = lt'; has_number = refl }) in
    let numbers : number_at os i ≡ number_at os j = apart (number_at os i) (number_at os j) (slot_at os i) first
    (second ∙ ap Some (sym same)) in
    both (nat_lt i j)
    (λ below. let less = rise os rising i j (ltb-true i j below) lt' in absurd (omega (arith, less, numbers)))
    (λ not-below. both (nat_lt j i)
    (λ above. let less = rise os rising j i (ltb-true j i above) lt in absurd (omega (arith, less, numbers)))
    (λ not-above. let a = ltb-false i j not-below in let b = ltb-false j i not-above in omega (arith, a, b)))
