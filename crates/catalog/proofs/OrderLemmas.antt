-- Stations in the order of their codes, and which of them a search finds.
use Rattle.std.proofs.Common.{◌≡◌, ℕ, zero, suc, ◌+◌, ◌-◌, ◌*◌, ◌/◌, ◌^◌, ◌<◌, ◌==◌, ◌&&◌, ◌≤◌, inl, inr}
use Rattle.std.proofs.Common.{Bool, true, false, List, [], ◌∷◌}
use Rattle.std.proofs.Common.{length, get_or, map, find, All, Option, Some, None, option_map, nat_lt, min}
use Rattle.std.proofs.Common.{refl, sym, ap, ap₂, ◌∙◌, subst, arith}
use Rattle.std.specs.Prelude.{IfSome}
use Rattle.std.specs.List.Sorted.{IsPermutation, IsNonDecreasingBy}
use Rattle.std.proofs.lemmas.Bool.{eq-eqb, eqb-true, eqb-false, ne_eqb, ltb-true, lt-ltb, ltb-false, le-ltb}
use Rattle.std.proofs.lemmas.Bool.Decides.{leb_tells}
use Rattle.std.proofs.lemmas.List.Elements.{All-get_or}
use Rattle.std.proofs.lemmas.List.Sorted.{All-permutation, IsPermutation-sym}
use Rattle.std.proofs.lemmas.Slice.Eq.{bytes_eq-Decides}
use Rattle.protocol.specs.Catalog.{Entry, Station, has_codes}
use Rattle.protocol.specs.Reading.{Not}
use Rattle.catalog.specs.Finding.{has_code}
use Rattle.text_parts.specs.Spelling.{spelled}
use Rattle.text_parts.proofs.SpellingLemmas.{spelled_small}
use Rattle.catalog.specs.Indexing.{codes_eq, key, rank, AreCodes, AreShort, HasShortCodes}
use Rattle.catalog.specs.Orders.{key_at, rank_at, rank_of, AreAmong, AreInOrder, HasCodesAt, IsAround, IsFirstFrom}
use Rattle.catalog.specs.Orders.{LacksCodesAt}
use Rattle.catalog.specs.Places.{station_at, HasDistinctCodes}
use Rattle.catalog.specs.declared.codes.Codes.{Codes}
use Rattle.catalog.proofs.DistinctLemmas.{at_place, nothing}
use Rattle.catalog.proofs.FindLemmas.{nobody, place_found}
use Rattle.catalog.proofs.IndexLemmas.{equal_codes, same_codes}

-- ---- lists with the same numbers

-- a number is in a list, or differs from all of it
abbrev IsIn : ℕ → List ℕ → Type 0
IsIn p qs = (j : ℕ) × (j < length qs) × (get_or qs j 0 ≡ p)

further : (p q : ℕ) (qs : List ℕ) → IsIn p qs → IsIn p (q ∷ qs)
further p q qs is = (suc is.0, omega (arith, is.1), is.2)

among : (p : ℕ) (qs : List ℕ) → (All (λ q. q ≡ p → ⊥) qs → ⊥) → IsIn p qs
among p [] some = absurd (some (λ k d h. absurd (omega (arith, h))))
among p (q ∷ qs) some =
    elim (leb_tells p q) [
      | inl le ↦ elim (leb_tells q p) [
        | inl ge ↦ (0, omega arith, omega (arith, le.1, ge.1))
        | inr gt ↦ let less : p < q = gt.1 in
            further p q qs (among p qs (λ none. some (all_but p q qs (λ e. omega (arith, less, e)) none)))
      ]
      | inr gt ↦ let less : q < p = gt.1 in
          further p q qs (among p qs (λ none. some (all_but p q qs (λ e. omega (arith, less, e)) none)))
    ]
  where
    all_but : (p q : ℕ) (qs : List ℕ) → (q ≡ p → ⊥) → All (λ q. q ≡ p → ⊥) qs → All (λ q. q ≡ p → ⊥) (q ∷ qs)
    all_but p q qs here later zero d h = here
    all_but p q qs here later (suc k) d h = later k d (omega (arith, h))

-- the numbers of a list are among those of it in another order
among_permuted : (ps qs : List ℕ) → IsPermutation ps qs → AreAmong ps qs
among_permuted ps qs same i h =
    among (get_or ps i 0) qs
    (λ none. All-get_or (λ q. q ≡ get_or ps i 0 → ⊥) ps i 0 h
    (All-permutation (λ q. q ≡ get_or ps i 0 → ⊥) qs ps (IsPermutation-sym ps qs same) none) refl)

-- what sorting by ranks leaves
pub in_order_sorted : (station : ℕ → Station) (ps os : List ℕ) → IsPermutation ps os
    → IsNonDecreasingBy (λ p. rank_of (station p)) os → AreInOrder station ps os
in_order_sorted station ps os same rises = record {
  rises = rises;
  has = among_permuted ps os same;
  only = among_permuted os ps (IsPermutation-sym ps os same);
}

-- ---- codes by their rank

-- Codes of one rank are the same.
same_rank : (s : Station) (network code : List ℕ) → AreCodes s.network s.code → AreCodes network code
    → rank (key s.network s.code) ≡ rank (key network code) → key s.network s.code ≡ key network code
same_rank s network code its those same =
    let a : spelled s.code < 2 ^ 64 = spelled_small s.code (omega (arith, its.short.1)) its.code_bytes in
    let b : spelled code < 2 ^ 64 = spelled_small code (omega (arith, those.short.1)) those.code_bytes in
    let networks : spelled s.network ≡ spelled network = omega (arith, a, b, same) in
    let codes : spelled s.code ≡ spelled code = omega (arith, a, b, same) in
    ap₂ (λ m n. let k : Codes = record { network = m; code = n } in k) networks codes

-- Ranks are equal where both codes are.
pub equal_ranks : (n m a b : ℕ) → a < 2 ^ 64 → b < 2 ^ 64
    → (n * 2 ^ 64 + a == m * 2 ^ 64 + b) ≡ ((n == m) && (a == b))
equal_ranks n m a b a_small b_small = by (n == m) (a == b) refl refl
  where
    by : (p q : Bool) → (n == m) ≡ p → (a == b) ≡ q → (n * 2 ^ 64 + a == m * 2 ^ 64 + b) ≡ (p && q)
    by true true e f = eq-eqb _ _ (ap₂ (λ x y. x * 2 ^ 64 + y) (eqb-true n m e) (eqb-true a b f))
    by true false e f = ne_eqb _ _ (λ same. eqb-false a b f (omega (arith, a_small, b_small, same)))
    by false q e f = ne_eqb _ _ (λ same. eqb-false n m e (omega (arith, a_small, b_small, same)))

module _ (es : List Entry) (ps os : List ℕ) (network code : List ℕ) (within : All (λ k. k < length es) ps)
    (ordered : AreInOrder (station_at es) ps os)
    (short : All HasShortCodes es) (distinct : HasDistinctCodes es) (spelt : AreCodes network code) where
  -- a place of a station is below their count
  below : (j : ℕ) → j < length os → get_or os j 0 < length es
  below j h =
      let there = ordered.only j h in
      subst (λ k. k < length es) there.2 (All-get_or (λ k. k < length es) ps there.0 0 there.1 within)

  its : (k : ℕ) → k < length es → AreCodes (station_at es k).network (station_at es k).code
  its k h = subst (λ (s : Station). AreCodes s.network s.code) (sym (at_place es k nothing h))
      (All-get_or HasShortCodes es k nothing h short)

  -- a station whose codes these are
  has_them : (k : ℕ) → k < length es → key_at es k ≡ key network code
      → has_codes network code (station_at es k) ≡ true
  has_them k h same =
      sym (equal_codes (station_at es k) network code (its k h) spelt)
      ∙ subst (λ (c : Codes). codes_eq c (key network code) ≡ true) (sym same) (itself (key network code))
    where
      itself : (c : Codes) → codes_eq c c ≡ true
      itself c = search arith

  -- it is found
  pub by_codes_found : (place : ℕ) → HasCodesAt es os (key network code) place
      → find (has_codes network code) (map (station_at es) ps) ≡ Some (station_at es place)
  by_codes_found place found =
      let there = ordered.only found.at found.inside in
      place_found es ps network code within distinct place (has_them place found.there found.codes) found.there
      there.0 there.1 (there.2 ∙ sym found.is)

  -- no station has them
  pub by_codes_missed : (at m : ℕ) → m ≡ min at (length os - 1) →
      IsFirstFrom (λ p. nat_lt (rank_at es p) (rank (key network code))) os at
      → LacksCodesAt es os m (key network code) → find (has_codes network code) (map (station_at es) ps) ≡ None
  by_codes_missed at m is first lacks =
      nobody (has_codes network code) es ps
      (λ k h. by (has_codes network code (station_at es (get_or ps k 0))) k h refl)
    where
      -- a place whose station has them
      impossible : (k : ℕ) → k < length ps → has_codes network code (station_at es (get_or ps k 0)) ≡ true → ⊥
      impossible k h holds =
          let there = ordered.has k h in
          let q = get_or ps k 0 in
          let same = same_codes (station_at es q) network code holds in
          let equal : rank_at es (get_or os there.0 0) ≡ rank (key network code) =
          ap (rank_at es) there.2 ∙ ap₂ (λ n c. rank (key n c)) same.0 same.1 in
          elim (leb_tells at there.0) [
            | inl le ↦
                let here : at < length os = omega (arith, le.1, there.1) in
                let m_is : m ≡ at = omega (arith, is, here) in
                let low : rank_at es (get_or os at 0) ≤ rank_at es (get_or os there.0 0) =
                ordered.rises at there.0 0 le.1 there.1 in
                let high =
                ltb-false (rank_at es (get_or os at 0)) (rank (key network code)) (first.after at (omega arith) here) in
                let rank_is : rank_at es (get_or os at 0) ≡ rank (key network code) = omega (arith, low, high, equal) in
                let place = get_or os at 0 in
                let inside = below at here in
                subst (λ i. LacksCodesAt es os i (key network code)) m_is lacks here inside
                (same_rank (station_at es place) network code (its place inside) spelt rank_is)
            | inr gt ↦
                let less =
                ltb-true (rank_at es (get_or os there.0 0)) (rank (key network code)) (first.before there.0 gt.1) in
                omega (arith, less, equal)
          ]

      by : (b : Bool) (k : ℕ) → k < length ps → has_codes network code (station_at es (get_or ps k 0)) ≡ b → b ≡ false
      by false k h e = refl
      by true k h e = absurd (impossible k h e)

-- ---- halving

module _ (r : ℕ → ℕ) (rank : ℕ) (xs : List ℕ) (rises : IsNonDecreasingBy r xs) where
  abbrev is_before : ℕ → Bool
  is_before p = nat_lt (r p) rank

  -- The last place of the first half comes before the rank, and so does all that is before it.
  pub upper_half : (at left half : ℕ) → half ≤ left → 0 < half → at + half ≤ length xs
      → is_before (get_or xs (at + half - 1) 0) ≡ true
      → IsAround is_before xs at left → IsAround is_before xs (at + half) (left - half)
  upper_half at left half few some inside less around = record {
    before = λ i lt.
        let middle = at + half - 1 in
        let low : r (get_or xs i 0) ≤ r (get_or xs middle 0) =
        rises i middle 0 (omega (arith, lt)) (omega (arith, inside, some)) in
        let high = ltb-true (r (get_or xs middle 0)) rank less in
        lt-ltb (r (get_or xs i 0)) rank (omega (arith, low, high));
    after = λ i le. around.after i (omega (arith, le, few));
  }

  -- It doesn't, and so does nothing after it.
  pub lower_half : (at left half : ℕ) → half + half ≤ left → 0 < half → at + half ≤ length xs
      → is_before (get_or xs (at + half - 1) 0) ≡ false
      → IsAround is_before xs at left → IsAround is_before xs at (left - half)
  lower_half at left half few some inside other around = record {
    before = around.before;
    after = λ i le lt.
        let middle = at + half - 1 in
        let high : r (get_or xs middle 0) ≤ r (get_or xs i 0) = rises middle i 0 (omega (arith, le, few)) lt in
        let low = ltb-false (r (get_or xs middle 0)) rank other in
        le-ltb (r (get_or xs i 0)) rank (omega (arith, low, high));
  }

  -- nothing is left but one place
  pub around_one : (at left : ℕ) → left ≤ 1 → IsAround is_before xs at left → IsAround is_before xs at 1
  around_one at left few around = record {
    before = around.before;
    after = λ i le. around.after i (omega (arith, le, few));
  }

  -- that place comes before the rank
  first_after : (at : ℕ) → at < length xs → is_before (get_or xs at 0) ≡ true → IsAround is_before xs at 1
      → IsFirstFrom is_before xs (at + 1)
  first_after at within less around = record {
    inside = omega (arith, within);
    before = λ i lt. elim (leb_tells at i) [
      | inl le ↦
          let same : i ≡ at = omega (arith, le.1, lt) in
          subst (λ k. is_before (get_or xs k 0) ≡ true) (sym same) less
      | inr gt ↦ around.before i gt.1
    ];
    after = λ i le lt. around.after i (omega (arith, le)) lt;
  }

  -- it doesn't
  first_at : (at : ℕ) → at < length xs → is_before (get_or xs at 0) ≡ false → IsAround is_before xs at 1
      → IsFirstFrom is_before xs at
  first_at at within other around = record {
    inside = omega (arith, within);
    before = around.before;
    after = λ i le lt. elim (leb_tells i at) [
      | inl ge ↦
          let same : i ≡ at = omega (arith, le, ge.1) in
          subst (λ k. is_before (get_or xs k 0) ≡ false) (sym same) other
      | inr more ↦ around.after i (omega (arith, more.1)) lt
    ];
  }

  -- what is after one more look
  pub first_by : (at step : ℕ) (b : Bool) → at < length xs → is_before (get_or xs at 0) ≡ b → (b ≡ true → step ≡ 1)
      → (b ≡ false → step ≡ 0) → IsAround is_before xs at 1 → IsFirstFrom is_before xs (at + step)
  first_by at step true within less over stays around =
      subst (λ k. IsFirstFrom is_before xs (at + k)) (sym (over refl)) (first_after at within less around)
  first_by at step false within other over stays around =
      subst (λ k. IsFirstFrom is_before xs k) (omega (arith, stays refl)) (first_at at within other around)

  -- there is no place
  pub first_of_none : (at : ℕ) → at ≤ length xs - 1 → length xs ≤ at → IsFirstFrom is_before xs at
  first_of_none at within over = record {
    inside = omega (arith, within, over);
    before = λ i lt. absurd (omega (arith, lt, within, over));
    after = λ i le lt. absurd (omega (arith, lt, within, over));
  }

-- one step of the search
module _ (r : ℕ → ℕ) (rank : ℕ) (xs : List ℕ) (at left step : ℕ) (many : 1 < left) (whole : at + left ≤ length xs) where
  abbrev is_less : ℕ → Bool
  is_less p = nat_lt (r p) rank

  pub record IsStepped : Type 0 where
    pub inside : at + step + (left - left / 2) ≤ length xs
    pub last : at + step ≤ length xs - 1
    pub around : IsNonDecreasingBy r xs → IsAround is_less xs at left
        → IsAround is_less xs (at + step) (left - left / 2)

  pub stepped : (b : Bool) → is_less (get_or xs (at + left / 2 - 1) 0) ≡ b → (b ≡ true → step ≡ left / 2)
      → (b ≡ false → step ≡ 0) → IsStepped
  stepped true less over stays = record {
    inside = omega (arith, over refl, many, whole);
    last = omega (arith, over refl, many, whole);
    around = λ rises around.
        subst (λ k. IsAround is_less xs (at + k) (left - left / 2)) (sym (over refl))
        (upper_half r rank xs rises at left (left / 2) (omega arith) (omega (arith, many)) (omega (arith, many, whole))
        less around);
  }
  stepped false less over stays = record {
    inside = omega (arith, stays refl, many, whole);
    last = omega (arith, stays refl, many, whole);
    around = λ rises around.
        subst (λ k. IsAround is_less xs k (left - left / 2)) (omega (arith, stays refl))
        (lower_half r rank xs rises at left (left / 2) (omega arith) (omega (arith, many)) (omega (arith, many, whole))
        less around);
  }

-- ---- a code alone

-- no station has a code that is longer than any
pub long_code_nowhere : (es : List Entry) (ps : List ℕ) (code : List ℕ) → All (λ k. k < length es) ps
    → All HasShortCodes es → Not (length code ≤ 5) → find (has_code code) (map (station_at es) ps) ≡ None
long_code_nowhere es ps code within short long =
    nobody (has_code code) es ps
    (λ k h. by (has_code code (station_at es (get_or ps k 0))) (get_or ps k 0)
    (All-get_or (λ k. k < length es) ps k 0 h within) refl)
  where
    by : (b : Bool) (k : ℕ) → k < length es → has_code code (station_at es k) ≡ b → b ≡ false
    by false k h e = refl
    by true k h e =
        let same : (station_at es k).code ≡ code = (bytes_eq-Decides (station_at es k).code code).0 e in
        let its : AreCodes (station_at es k).network (station_at es k).code =
        subst (λ (s : Station). AreCodes s.network s.code) (sym (at_place es k nothing h))
        (All-get_or HasShortCodes es k nothing h short) in
        absurd (long (subst (λ (c : List ℕ). length c ≤ 5) same its.short.1))

-- and no station has codes that are longer than any
pub long_codes_nowhere : (es : List Entry) (ps : List ℕ) (network code : List ℕ) → All (λ k. k < length es) ps
    → All HasShortCodes es → Not (AreShort network code) → find (has_codes network code) (map (station_at es) ps) ≡ None
long_codes_nowhere es ps network code within short long =
    nobody (has_codes network code) es ps
    (λ k h. by (has_codes network code (station_at es (get_or ps k 0))) (get_or ps k 0)
    (All-get_or (λ k. k < length es) ps k 0 h within) refl)
  where
    by : (b : Bool) (k : ℕ) → k < length es → has_codes network code (station_at es k) ≡ b → b ≡ false
    by false k h e = refl
    by true k h e =
        let same = same_codes (station_at es k) network code e in
        let its : AreCodes (station_at es k).network (station_at es k).code =
        subst (λ (s : Station). AreCodes s.network s.code) (sym (at_place es k nothing h))
        (All-get_or HasShortCodes es k nothing h short) in
        absurd (long (
          subst (λ (n : List ℕ). length n ≤ 2) same.0 its.short.0,
          subst (λ (c : List ℕ). length c ≤ 5) same.1 its.short.1,
        ))

-- ---- what halving finds

-- what is known of it
record Halved (es : List Entry) (os : List ℕ) (sought : Codes) (at : ℕ) (r : Option ℕ) : Type 0 where
  some : IfSome r (HasCodesAt es os sought)
  none : r ≡ None → LacksCodesAt es os (min at (length os - 1)) sought
  first : IsNonDecreasingBy (rank_at es) os → IsFirstFrom (λ p. nat_lt (rank_at es p) (rank sought)) os at

-- It is the station with the codes, if one of the places has it.
pub halved : (es es' : List Entry) (ps os os' : List ℕ) (network code : List ℕ) (sought : Codes) (at : ℕ) (r : Option ℕ)
    → All (λ k. k < length es) ps → AreInOrder (station_at es) ps os → All HasShortCodes es → HasDistinctCodes es
    → AreCodes network code → es' ≡ es → os' ≡ os → sought ≡ key network code
    → IfSome r (HasCodesAt es' os' sought) → (r ≡ None → LacksCodesAt es' os' (min at (length os' - 1)) sought)
    → (IsNonDecreasingBy (rank_at es') os' → IsFirstFrom (λ p. nat_lt (rank_at es' p) (rank sought)) os' at)
    → option_map (station_at es) r ≡ find (has_codes network code) (map (station_at es) ps)
halved es es' ps os os' network code sought at r within ordered short distinct spelt es_is os_is key_is some none
    first =
    let there : Halved es' os' sought at r = record { some = some; none = none; first = first } in
    by r (subst (λ k. Halved es os k at r) key_is (subst (λ o. Halved es o sought at r) os_is
    (subst (λ e. Halved e os' sought at r) es_is there)))
  where
    by : (r : Option ℕ) → Halved es os (key network code) at r
        → option_map (station_at es) r ≡ find (has_codes network code) (map (station_at es) ps)
    by (Some place) h = sym (by_codes_found es ps os network code within ordered short distinct spelt place h.some)
    by None h =
        sym (by_codes_missed es ps os network code within ordered short distinct spelt at (min at (length os - 1)) refl
        (h.first ordered.rises) (h.none refl))
