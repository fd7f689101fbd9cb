-- Stations of two configurations, one after the other, and the stations of a view.
use Rattle.std.proofs.Common.{◌≡◌, ℕ, ◌+◌, ◌<◌, ◌≤◌, ◌&&◌, ◌==◌, zero, suc, Bool, true, false, true≢false, List, []}
use Rattle.std.proofs.Common.{◌∷◌, length, map, filter, drop, get_or, refl, sym, ap, ap₂, ◌∙◌, arith, add-one}
use Rattle.std.proofs.Common.{drop-cons, eqb-true}
use Rattle.std.proofs.lemmas.Bool.{and_parts, eqb-false}
use Rattle.std.proofs.lemmas.List.{length-map}
use Rattle.protocol.specs.Catalog.{Entry, Station, View, is_same_station, are_same_stations}
use Rattle.protocol.proofs.FoundLemmas.{both}
use Rattle.protocol.proofs.Configs.{stations_same, views_compared}
use Rattle.catalog.specs.Places.{station_at, HasDistinctCodes}
use Rattle.catalog.proofs.DistinctLemmas.{at_place}

-- the stations of entries
abbrev pub stations_in : List Entry → List Station
stations_in es = map (λ e. e.station) es

-- ---- the same stations
station_self : (s : Station) → is_same_station s s ≡ true
station_self s =
    let v : View = record { title = []; stations = s ∷ [] } in
    (and_parts (is_same_station s s) true ((views_compared v v).1 refl)).0

station_same : (s t : Station) → is_same_station s t ≡ true → s ≡ t
station_same s t e =
    let one : are_same_stations (s ∷ []) (t ∷ []) ≡ true = rw e refl in
    first (stations_same (s ∷ []) (t ∷ []) one)
  where
    head : List Station → Station
    head [] = s
    head (x ∷ xs) = x

    first : s ∷ [] ≡ t ∷ [] → s ≡ t
    first p = ap head p

same_length : (ss ts : List Station) → are_same_stations ss ts ≡ true → length ss ≡ length ts
same_length ss ts e = ap length (stations_same ss ts e)

pub of_other_length : (es fs : List Entry) → (length es ≡ length fs → ⊥)
    → are_same_stations (stations_in es) (stations_in fs) ≡ false
of_other_length es fs apart =
    both (are_same_stations (stations_in es) (stations_in fs))
    (λ y. absurd
    (apart (sym (length-map es (λ e. e.station)) ∙ same_length (stations_in es) (stations_in fs) y
    ∙ length-map fs (λ e. e.station))))
    (λ n. n)

drop_at : (es : List Entry) (i : ℕ) (e : Entry) → i < length es → e ≡ get_or es i e → drop i es ≡ e ∷ drop (i + 1) es
drop_at es i e lt is = drop-cons es i e lt ∙ ap₂ (λ x n. x ∷ drop n es) (sym is) (sym (add-one i))

pub same_step : (es fs : List Entry) (i : ℕ) (e f : Entry) → i < length es → i < length fs → e ≡ get_or es i e
    → f ≡ get_or fs i f →
    are_same_stations (stations_in (drop i es)) (stations_in (drop i fs))
    ≡ (is_same_station e.station f.station
    && are_same_stations (stations_in (drop (i + 1) es)) (stations_in (drop (i + 1) fs)))
same_step es fs i e f lt lt' is is' =
    ap₂ (λ xs ys. are_same_stations (stations_in xs) (stations_in ys)) (drop_at es i e lt is) (drop_at fs i f lt' is')

pub ruleset same_lemmas = (of_other_length, same_step)

-- ---- the stations of a view
-- what is seen from a place on, and what is left of the view from another on, are the same
abbrev pub SameFrom : (Entry → Bool) → List Entry → List ℕ → (place at : ℕ) → Bool
SameFrom p es ps place at = are_same_stations (stations_in (filter p (drop place es)))
    (map (station_at es) (drop at ps))

module _ (p : Entry → Bool) (es : List Entry) (ps : List ℕ) where
  pub unseen_step : (i at : ℕ) (e : Entry) → i < length es → e ≡ get_or es i e → p e ≡ false
      → SameFrom p es ps i at ≡ SameFrom p es ps (i + 1) at
  unseen_step i at e lt is n =
      ap (λ xs. are_same_stations (stations_in (filter p xs)) (map (station_at es) (drop at ps))) (drop_at es i e lt is)
      ∙ rw n refl

  seen_first : (i at : ℕ) (e : Entry) → i < length es → e ≡ get_or es i e → p e ≡ true
      → SameFrom p es ps i at ≡ are_same_stations (e.station ∷ stations_in (filter p (drop (i + 1) es)))
      (map (station_at es) (drop at ps))
  seen_first i at e lt is y =
      ap (λ xs. are_same_stations (stations_in (filter p xs)) (map (station_at es) (drop at ps))) (drop_at es i e lt is)
      ∙ rw y refl

  drop_place : (at q : ℕ) → at < length ps → q ≡ get_or ps at 0 → drop at ps ≡ q ∷ drop (at + 1) ps
  drop_place at q lt is = drop-cons ps at 0 lt ∙ ap₂ (λ x n. x ∷ drop n ps) (sym is) (sym (add-one at))

  here : (i : ℕ) (e : Entry) → i < length es → e ≡ get_or es i e → station_at es i ≡ e.station
  here i e lt is = at_place es i e lt ∙ ap (λ x. x.station) (sym is)

  pub seen_step : (i at q : ℕ) (e : Entry) → i < length es → e ≡ get_or es i e → p e ≡ true → at < length ps
      → q ≡ get_or ps at 0 → q ≡ i → SameFrom p es ps i at ≡ SameFrom p es ps (i + 1) (at + 1)
  seen_step i at q e lt is y there is' same =
      seen_first i at e lt is y
      ∙ ap (λ xs. are_same_stations (e.station ∷ stations_in (filter p (drop (i + 1) es))) (map (station_at es) xs))
      (drop_place at q there is')
      ∙ ap (λ s. is_same_station e.station s && SameFrom p es ps (i + 1) (at + 1))
      (ap (station_at es) same ∙ here i e lt is)
      ∙ ap (λ b. b && SameFrom p es ps (i + 1) (at + 1)) (station_self e.station)

  pub seen_other : HasDistinctCodes es → (i at q : ℕ) (e : Entry) → i < length es → e ≡ get_or es i e → p e ≡ true
      → at < length ps → q ≡ get_or ps at 0 → (q ≡ i → ⊥) → SameFrom p es ps i at ≡ false
  seen_other distinct i at q e lt is y there is' apart =
      seen_first i at e lt is y
      ∙ ap (λ xs. are_same_stations (e.station ∷ stations_in (filter p (drop (i + 1) es))) (map (station_at es) xs))
      (drop_place at q there is')
      ∙ both (is_same_station e.station (station_at es q))
      (λ t.
      let same : station_at es i ≡ station_at es q = here i e lt is ∙ station_same e.station (station_at es q) t in
      absurd (apart (sym (distinct i q lt (ap (λ s. s.network) same, ap (λ s. s.code) same)))))
      (λ n. ap (λ b. b && SameFrom p es ps (i + 1) (at + 1)) n)

  pub seen_more : (i at : ℕ) (e : Entry) → i < length es → e ≡ get_or es i e → p e ≡ true → at ≡ length ps
      → SameFrom p es ps i at ≡ false
  seen_more i at e lt is y none =
      seen_first i at e lt is y
      ∙ ap (λ xs. are_same_stations (e.station ∷ stations_in (filter p (drop (i + 1) es))) (map (station_at es) xs))
      (ap (λ n. drop n ps) none ∙ drop_all ps)
    where
      drop_all : (xs : List ℕ) → drop (length xs) xs ≡ []
      drop_all [] = refl
      drop_all (x ∷ xs) = drop_all xs

  pub all_seen : (i at : ℕ) → length es ≤ i → at ≤ length ps → SameFrom p es ps i at ≡ (at == length ps)
  all_seen i at past within =
      ap (λ xs. are_same_stations (stations_in (filter p xs)) (map (station_at es) (drop at ps))) (drop_past es i past)
      ∙ both (at == length ps)
      (λ y. ap (λ n. are_same_stations [] (map (station_at es) (drop n ps))) (eqb-true at (length ps) y)
      ∙ ap (λ xs. are_same_stations [] (map (station_at es) xs)) (drop_past ps (length ps) (omega arith)) ∙ sym y)
      (λ n. some_left ps at within n ∙ sym n)
    where
      none_in : {A : Type 0} (xs : List A) → length xs ≡ 0 → xs ≡ []
      none_in [] e = refl
      none_in (x ∷ xs) e = absurd (omega (arith, e))

      drop_past : {A : Type 0} (xs : List A) (k : ℕ) → length xs ≤ k → drop k xs ≡ []
      drop_past xs zero past = none_in xs (omega arith)
      drop_past [] (suc k) past = refl
      drop_past (x ∷ xs) (suc k) past = drop_past xs k (omega arith)

      some_left : (xs : List ℕ) (k : ℕ) → k ≤ length xs → (k == length xs) ≡ false
          → are_same_stations [] (map (station_at es) (drop k xs)) ≡ false
      some_left [] zero within apart = absurd (true≢false apart)
      some_left [] (suc k) within apart = absurd (omega arith)
      some_left (x ∷ xs) zero within apart = refl
      some_left (x ∷ xs) (suc k) within apart =
          some_left xs k (omega arith)
          (both (k == length xs)
          (λ y. absurd (eqb-false (suc k) (length (x ∷ xs)) apart (ap suc (eqb-true k (length xs) y)))) (λ n. n))

pub ruleset seen_lemmas = (unseen_step, seen_step, seen_other, seen_more, all_seen)
