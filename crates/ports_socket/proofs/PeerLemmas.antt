-- Ports by rising number: where one is found, and what is left without it.
use Rattle.std.proofs.Common.{◌≡◌, ℕ, zero, suc, ◌+◌, ◌<◌, ◌≤◌, ◌==◌, not, Bool, true, false, if◌then◌else◌, List}
use Rattle.std.proofs.Common.{[], ◌∷◌, ◌++◌, find, get_or, length, Option, Some, None, Result, Ok, Err, IfOk, IfErr}
use Rattle.std.proofs.Common.{refl, sym, ap}
use Rattle.std.proofs.Common.{subst, ◌∙◌, arith}
use Rattle.std.specs.List.{remove}
use Rattle.std.specs.List.Sorted.{IsSearchInRange, IsBinarySearchResult, IsNonDecreasingBy}
use Rattle.std.specs.Ordering.{nat_cmp, ordering_index}
use Rattle.std.proofs.lemmas.Cmp.{ranked}
use Rattle.std.proofs.lemmas.List.Sorted.{IsNonDecreasingBy-from_default}
use Rattle.std.proofs.lemmas.Bool.Decides.{nat_tests}
use Rattle.ports_socket.specs.declared.peer.Peer.{Peer}
use Rattle.ports_socket.specs.Peers.{AreAbove, AreBelow, IsGapFor, IsPeerAt, Rise, no_peer, number_at, without}

-- ---- rising numbers

above-at : (n : ℕ) (ps : List Peer) → AreAbove n ps → (j : ℕ) → j < length ps → n < number_at ps j
above-at n [] h j lt = absurd (omega (arith, lt))
above-at n (p ∷ ps) h zero lt = h.0
above-at n (p ∷ ps) h (suc j) lt = above-at n ps h.1 j (omega (arith, lt))

above-from : (n : ℕ) (ps : List Peer) → ((j : ℕ) → j < length ps → n < number_at ps j) → AreAbove n ps
above-from n [] h = tt
above-from n (p ∷ ps) h = (h 0 (omega arith), above-from n ps (λ j lt. h (suc j) (omega (arith, lt))))

rising-at : (ps : List Peer) → Rise ps → (i j : ℕ) → i < j → j < length ps → number_at ps i < number_at ps j
rising-at [] h i j lt inside = absurd (omega (arith, inside))
rising-at (p ∷ ps) h i zero lt inside = absurd (omega (arith, lt))
rising-at (p ∷ ps) h zero (suc j) lt inside = above-at p.number ps h.0 j (omega (arith, inside))
rising-at (p ∷ ps) h (suc i) (suc j) lt inside =
    rising-at ps h.1 i j (omega (arith, lt)) (omega (arith, inside))

-- ---- where a port is found

module _ (l : List Peer) (rise : Rise l) (k : ℕ) where
  -- the comparisons with k rise along the list, as a binary search asks
  comparisons_rise : IsNonDecreasingBy (λ p. ordering_index (nat_cmp p.number k)) l
  comparisons_rise = IsNonDecreasingBy-from_default (λ p. ordering_index (nat_cmp p.number k)) l no_peer
      (λ i j le in_range.
      let numbers_rise : number_at l i ≤ number_at l j =
      grind (arith, rising-at l rise i j, λ (same : i ≡ j). ap (number_at l) same) in
      grind (arith, nat_tests))

  -- a binary search ends at the port, or at the gap for it
  pub searched : (r : Result ℕ ℕ) → IsSearchInRange r (length l) → IsBinarySearchResult (λ p. nat_cmp p.number k) l r
      → record { found : IfOk r (IsPeerAt l k); absent : IfErr r (IsGapFor l k) }
  searched (Ok at) in_range equal =
      record { found = record { inside = in_range; has_number = ranked _ k _ (sym (equal no_peer)) }; absent = tt }
  searched (Err at) in_range parted = record {
    found = tt;
    absent = record {
      inside = in_range;
      lower_before = λ j lt. ranked _ k _ (sym ((parted comparisons_rise).0 j no_peer (omega arith) lt));
      higher_after = λ j le lt. ranked _ k _ (sym ((parted comparisons_rise).1 j no_peer le lt));
    };
  }

-- ---- what is left

not-below : (a b : ℕ) → a < b → (a == b) ≡ false
not-below a b lt = grind (arith, nat_tests)

not-above : (a b : ℕ) → b < a → (a == b) ≡ false
not-above a b lt = grind (arith, nat_tests)

is-same : (a b : ℕ) → a ≡ b → (a == b) ≡ true
is-same a b e = grind (arith, nat_tests)

abbrev kept : Peer → List Peer → Bool → List Peer
kept p ps same = if not same then p ∷ ps else ps

-- numbers above it all stay
without-above : (n : ℕ) (ps : List Peer) → AreAbove n ps → without n ps ≡ ps
without-above n [] h = refl
without-above n (p ∷ ps) h =
    ap (kept p (without n ps)) (not-above p.number n h.0) ∙ ap (λ l. p ∷ l) (without-above n ps h.1)

-- the one that is found goes
pub without-found : (n : ℕ) (ps : List Peer) (at : ℕ) → Rise ps → IsPeerAt ps n at → without n ps ≡ remove ps at
without-found n [] at h is = absurd (omega (arith, is.inside))
without-found n (p ∷ ps) zero h is =
    let same : p.number ≡ n = is.has_number in
    ap (kept p (without n ps)) (is-same p.number n same)
    ∙ without-above n ps (subst (λ m. AreAbove m ps) same h.0)
without-found n (p ∷ ps) (suc at) h is =
    let inside : at < length ps = omega (arith, is.inside) in
    let here : number_at ps at ≡ n = is.has_number in
    let lower : p.number < n = subst (λ m. p.number < m) here (above-at p.number ps h.0 at inside) in
    ap (kept p (without n ps)) (not-below p.number n lower)
    ∙ ap (λ l. p ∷ l) (without-found n ps at h.1 (record { inside = inside; has_number = here }))

gap-tail : (p : Peer) (ps : List Peer) (n at : ℕ) → IsGapFor (p ∷ ps) n (suc at) → IsGapFor ps n at
gap-tail p ps n at gap = record {
  inside = omega (arith, gap.inside);
  lower_before = λ j lt. gap.lower_before (suc j) (omega (arith, lt));
  higher_after = λ j le lt. gap.higher_after (suc j) (omega (arith, le)) (omega (arith, lt));
}

-- where none is found none goes
pub without-absent : (n : ℕ) (ps : List Peer) (at : ℕ) → IsGapFor ps n at → without n ps ≡ ps
without-absent n [] at gap = refl
without-absent n (p ∷ ps) zero gap =
    without-above n (p ∷ ps) (above-from n (p ∷ ps) (λ j lt. gap.higher_after j (omega arith) lt))
without-absent n (p ∷ ps) (suc at) gap =
    ap (kept p (without n ps)) (not-below p.number n (gap.lower_before 0 (omega arith)))
    ∙ ap (λ l. p ∷ l) (without-absent n ps at (gap-tail p ps n at gap))

above-remove : (n : ℕ) (ps : List Peer) (i : ℕ) → AreAbove n ps → AreAbove n (remove ps i)
above-remove n [] zero h = tt
above-remove n [] (suc i) h = tt
above-remove n (p ∷ ps) zero h = h.1
above-remove n (p ∷ ps) (suc i) h = (h.0, above-remove n ps i h.1)

pub rise-remove : (ps : List Peer) (i : ℕ) → Rise ps → Rise (remove ps i)
rise-remove [] zero h = tt
rise-remove [] (suc i) h = tt
rise-remove (p ∷ ps) zero h = h.1
rise-remove (p ∷ ps) (suc i) h = (above-remove p.number ps i h.0, rise-remove ps i h.1)

pub below-remove : (n : ℕ) (ps : List Peer) (i : ℕ) → AreBelow n ps → AreBelow n (remove ps i)
below-remove n [] zero h = tt
below-remove n [] (suc i) h = tt
below-remove n (p ∷ ps) zero h = h.1
below-remove n (p ∷ ps) (suc i) h = (h.0, below-remove n ps i h.1)

-- ---- one more

above-push : (n : ℕ) (ps : List Peer) (p : Peer) → AreAbove n ps → n < p.number → AreAbove n (ps ++ p ∷ [])
above-push n [] p h lt = (lt, tt)
above-push n (q ∷ ps) p h lt = (h.0, above-push n ps p h.1 lt)

pub rise-push : (ps : List Peer) (p : Peer) → Rise ps → AreBelow p.number ps → Rise (ps ++ p ∷ [])
rise-push [] p h below = (tt, tt)
rise-push (q ∷ ps) p h below = (above-push q.number ps p h.0 below.0, rise-push ps p h.1 below.1)

pub below-push : (n : ℕ) (ps : List Peer) (p : Peer) → AreBelow n ps → p.number ≡ n → AreBelow (n + 1) (ps ++ p ∷ [])
below-push n [] p h is = (omega (arith, is), tt)
below-push n (q ∷ ps) p h is = (omega (arith, h.0), below-push n ps p h.1 is)

-- ---- whose it is

abbrev found_or : Peer → Option Peer → Bool → Option Peer
found_or p rest same = if same then Some p else rest

pub find-found : (n : ℕ) (ps : List Peer) (at : ℕ) → Rise ps → IsPeerAt ps n at
    → find (λ p. p.number == n) ps ≡ Some (get_or ps at no_peer)
find-found n [] at h is = absurd (omega (arith, is.inside))
find-found n (p ∷ ps) zero h is =
    ap (found_or p (find (λ q. q.number == n) ps)) (is-same p.number n is.has_number)
find-found n (p ∷ ps) (suc at) h is =
    let inside : at < length ps = omega (arith, is.inside) in
    let here : number_at ps at ≡ n = is.has_number in
    let lower : p.number < n = subst (λ m. p.number < m) here (above-at p.number ps h.0 at inside) in
    ap (found_or p (find (λ q. q.number == n) ps)) (not-below p.number n lower)
    ∙ find-found n ps at h.1 (record { inside = inside; has_number = here })

find-above : (n : ℕ) (ps : List Peer) → AreAbove n ps → find (λ p. p.number == n) ps ≡ None
find-above n [] h = refl
find-above n (p ∷ ps) h =
    ap (found_or p (find (λ q. q.number == n) ps)) (not-above p.number n h.0) ∙ find-above n ps h.1

pub find-absent : (n : ℕ) (ps : List Peer) (at : ℕ) → IsGapFor ps n at → find (λ p. p.number == n) ps ≡ None
find-absent n [] at gap = refl
find-absent n (p ∷ ps) zero gap =
    find-above n (p ∷ ps) (above-from n (p ∷ ps) (λ j lt. gap.higher_after j (omega arith) lt))
find-absent n (p ∷ ps) (suc at) gap =
    ap (found_or p (find (λ q. q.number == n) ps)) (not-below p.number n (gap.lower_before 0 (omega arith)))
    ∙ find-absent n ps at (gap-tail p ps n at gap)
