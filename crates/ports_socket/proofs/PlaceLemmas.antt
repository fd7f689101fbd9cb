-- Rising numbers of places, and where one is found among them.
use Rattle.std.proofs.Common.{◌≡◌, ℕ, zero, suc, ◌-◌, ◌<◌, ◌≤◌, nat_lt, true, List, [], ◌∷◌, ◌++◌, get_or, length}
use Rattle.std.proofs.Common.{Ok, Err, sym, ap, ◌∙◌, arith}
use Rattle.std.specs.List.{remove}
use Rattle.std.specs.List.Sorted.{IsBinarySearchResult, IsNonDecreasingBy}
use Rattle.std.specs.Ordering.{nat_cmp, ordering_index}
use Rattle.std.proofs.lemmas.Bool.Decides.{nat_tests}
use Rattle.std.proofs.lemmas.Cmp.{ranked}
use Rattle.std.proofs.lemmas.List.{get_or-map, length-map}
use Rattle.ports_socket.specs.declared.connections.ConnectionPlace.{ConnectionPlace}
use Rattle.ports_socket.specs.Places.{AreAbove, AreBelow, AreOthers, IsPlaceOf, Rise, numbers_of}

-- ---- rising numbers

pub above-at : (n : ℕ) (ns : List ℕ) → AreAbove n ns → (j : ℕ) → j < length ns → n < get_or ns j 0
above-at n [] h j lt = absurd (omega (arith, lt))
above-at n (m ∷ ms) h zero lt = h.0
above-at n (m ∷ ms) h (suc j) lt = above-at n ms h.1 j (omega (arith, lt))

rising-at : (ns : List ℕ) → Rise ns → (i j : ℕ) → i < j → j < length ns → get_or ns i 0 < get_or ns j 0
rising-at [] h i j lt inside = absurd (omega (arith, inside))
rising-at (m ∷ ms) h i zero lt inside = absurd (omega (arith, lt))
rising-at (m ∷ ms) h zero (suc j) lt inside = above-at m ms h.0 j (omega (arith, inside))
rising-at (m ∷ ms) h (suc i) (suc j) lt inside =
    rising-at ms h.1 i j (omega (arith, lt)) (omega (arith, inside))

above-push : (n : ℕ) (ns : List ℕ) (m : ℕ) → AreAbove n ns → n < m → AreAbove n (ns ++ m ∷ [])
above-push n [] m h lt = (lt, tt)
above-push n (x ∷ xs) m h lt = (h.0, above-push n xs m h.1 lt)

pub rise-push : (ns : List ℕ) (m : ℕ) → Rise ns → AreBelow m ns → Rise (ns ++ m ∷ [])
rise-push [] m h below = (tt, tt)
rise-push (x ∷ xs) m h below = (
  above-push x xs m h.0 (below 0 (omega arith)),
  rise-push xs m h.1 (λ j lt. below (suc j) (omega (arith, lt))),
)

above-remove : (n : ℕ) (ps : List ConnectionPlace) (i : ℕ) → AreAbove n (numbers_of ps)
    → AreAbove n (numbers_of (remove ps i))
above-remove n [] zero h = tt
above-remove n [] (suc i) h = tt
above-remove n (p ∷ ps) zero h = h.1
above-remove n (p ∷ ps) (suc i) h = (h.0, above-remove n ps i h.1)

pub rise-remove : (ps : List ConnectionPlace) (i : ℕ) → Rise (numbers_of ps) → Rise (numbers_of (remove ps i))
rise-remove [] zero h = tt
rise-remove [] (suc i) h = tt
rise-remove (p ∷ ps) zero h = h.1
rise-remove (p ∷ ps) (suc i) h = (above-remove p.number ps i h.0, rise-remove ps i h.1)

-- ---- where a number is found

pub number-read : (ps : List ConnectionPlace) (j : ℕ) (d : ConnectionPlace) → j < length ps
    → get_or (numbers_of ps) j 0 ≡ (get_or ps j d).number
number-read ps j d lt = get_or-map (λ (p : ConnectionPlace). p.number) ps j d 0 lt

pub long : (ps : List ConnectionPlace) → length (numbers_of ps) ≡ length ps
long ps = length-map ps (λ (p : ConnectionPlace). p.number)

module _ (l : List ConnectionPlace) (rise : Rise (numbers_of l)) (k : ℕ) where
  -- the comparisons with k rise along the list, as a binary search asks
  comparisons_rise : IsNonDecreasingBy (λ (p : ConnectionPlace). ordering_index (nat_cmp p.number k)) l
  comparisons_rise = λ i j d le in_range.
      let inside : j < length (numbers_of l) = omega (arith, long l, in_range) in
      let numbers_rise : get_or (numbers_of l) i 0 ≤ get_or (numbers_of l) j 0 =
      grind (arith, rising-at (numbers_of l) rise i j, λ (same : i ≡ j). ap (λ m. get_or (numbers_of l) m 0) same) in
      let read_i = number-read l i d (omega (arith, le, in_range)) in
      let read_j = number-read l j d in_range in
      let reads_rise : (get_or l i d).number ≤ (get_or l j d).number = omega (arith, numbers_rise, read_i, read_j) in
      grind (arith, nat_tests)

  searched-at : (d : ConnectionPlace) (at : ℕ) → at < length l
      → IsBinarySearchResult (λ (p : ConnectionPlace). nat_cmp p.number k) l (Ok at) → IsPlaceOf k (numbers_of l) at
  searched-at d at inside equal = record {
    inside = omega (arith, long l, inside);
    has_number = number-read l at d inside ∙ ranked _ k _ (sym (equal d));
  }

  -- no number is k, since those before the gap are below it and those after it above it
  searched-gap : (d : ConnectionPlace) (at : ℕ) → at ≤ length l
      → IsBinarySearchResult (λ (p : ConnectionPlace). nat_cmp p.number k) l (Err at) → AreOthers k (numbers_of l)
  searched-gap d at inside parted j lt same =
      let lt' : j < length l = omega (arith, long l, lt) in
      let read = number-read l j d lt' in
      let below : j < at → (get_or l j d).number < k =
      λ before. ranked _ k _ (sym ((parted comparisons_rise).0 j d (omega arith) before)) in
      let above : at ≤ j → k < (get_or l j d).number =
      λ after. ranked _ k _ (sym ((parted comparisons_rise).1 j d after lt')) in
      grind (arith, below, above, read, same)

-- a binary search ends at the place
pub place_found : (ps : List ConnectionPlace) → Rise (numbers_of ps) → (n at : ℕ) → at < length ps
    → IsBinarySearchResult (λ (p : ConnectionPlace). nat_cmp p.number n) ps (Ok at) → IsPlaceOf n (numbers_of ps) at
place_found [] rise n at inside equal = absurd (omega (arith, inside))
place_found (p ∷ ps) rise n at inside equal = searched-at (p ∷ ps) rise n p at inside equal

-- or at a gap
pub place_absent : (ps : List ConnectionPlace) → Rise (numbers_of ps) → (n at : ℕ) → at ≤ length ps
    → IsBinarySearchResult (λ (p : ConnectionPlace). nat_cmp p.number n) ps (Err at) → AreOthers n (numbers_of ps)
place_absent [] rise n at inside parted = λ j lt. absurd (omega (arith, lt))
place_absent (p ∷ ps) rise n at inside parted = searched-gap (p ∷ ps) rise n p at inside parted

is-less : (a b : ℕ) → nat_lt a b ≡ true → a < b
is-less a b is = grind (arith, nat_tests)

-- where the last is below a number all are
pub below-last : (n : ℕ) (ps : List ConnectionPlace) → Rise (numbers_of ps) → (last : ConnectionPlace)
    → last ≡ get_or ps (length ps - 1) last → nat_lt last.number n ≡ true → AreBelow n (numbers_of ps)
below-last n ps rise last read less = λ j inside.
    let is_last : get_or (numbers_of ps) (length ps - 1) 0 ≡ last.number =
    number-read ps (length ps - 1) last (omega (arith, long ps, inside))
    ∙ ap (λ (p : ConnectionPlace). p.number) (sym read) in
    let lt = is-less last.number n less in
    let end : length ps - 1 < length (numbers_of ps) = omega (arith, long ps, inside) in
    let within : j ≤ length ps - 1 = omega (arith, long ps, inside) in
    grind (
      arith,
      is_last,
      lt,
      end,
      within,
      rising-at (numbers_of ps) rise j (length ps - 1),
      λ (same : j ≡ length ps - 1). ap (λ m. get_or (numbers_of ps) m 0) same,
    )
