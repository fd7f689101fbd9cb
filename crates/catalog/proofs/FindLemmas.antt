-- The first of some stations that has codes.
use Rattle.std.proofs.Common.{◌≡◌, ℕ, ◌+◌, ◌<◌, zero, suc, Bool, true, false, List, [], ◌∷◌, length, drop, get_or}
use Rattle.std.proofs.Common.{map, find, Option, Some, None, All, refl, sym, ap, ◌∙◌}
use Rattle.std.proofs.Common.{arith}
use Rattle.std.specs.Prelude.{cond}
use Rattle.std.proofs.lemmas.List.{drop_more}
use Rattle.std.proofs.lemmas.List.Elements.{All-get_or}
use Rattle.protocol.specs.Catalog.{Entry, Station, View, find_station, has_codes}
use Rattle.catalog.specs.Places.{station_at, HasDistinctCodes}
use Rattle.catalog.specs.Finding.{has_code}
use Rattle.catalog.proofs.DistinctLemmas.{at_place}
use Rattle.catalog.proofs.IndexLemmas.{same_codes}

-- the station that a client means is the first that has its codes
pub find_station_fits : (v : View) (code : List ℕ) → find_station v code None ≡ find (has_code code) v.stations
find_station_fits v code = refl

-- the station at a place that is there
station_there : (es : List Entry) (k : ℕ) (e : Entry) → k < length es → e ≡ get_or es k e
    → station_at es k ≡ e.station
station_there es k e lt is = at_place es k e lt ∙ sym (ap (λ (x : Entry). x.station) is)

-- the places from one on
abbrev pub from_place : (Station → Bool) → List Entry → List ℕ → ℕ → Option Station
from_place p es ps i = find p (map (station_at es) (drop i ps))

-- it has the code
pub found-here : (p : Station → Bool) (es : List Entry) (ps : List ℕ) (i : ℕ) (e : Entry) → i < length ps
    → get_or ps i 0 < length es → e ≡ get_or es (get_or ps i 0) e → p e.station ≡ true
    → from_place p es ps i ≡ Some (station_at es (get_or ps i 0))
found-here p es ps i e lt within is y = rw (drop_more ps i 0 lt, station_there es (get_or ps i 0) e within is, y) refl

-- it hasn't
pub passed-by : (p : Station → Bool) (es : List Entry) (ps : List ℕ) (i : ℕ) (e : Entry) → i < length ps
    → get_or ps i 0 < length es → e ≡ get_or es (get_or ps i 0) e → p e.station ≡ false
    → from_place p es ps i ≡ from_place p es ps (i + 1)
passed-by p es ps i e lt within is n = rw (drop_more ps i 0 lt, station_there es (get_or ps i 0) e within is, n) refl

-- ---- stations with distinct codes

-- a station that passes, or else the first of the rest
pick : (b : Bool) (s t : Station) (rest : Option Station) → (b ≡ true → s ≡ t) → rest ≡ Some t
    → cond b (Some s) rest ≡ Some t
pick true s t rest same later = ap Some (same refl)
pick false s t rest same later = later

module _ (p : Station → Bool) (es : List Entry) where
  -- no station of the places passes
  pub nobody : (ps : List ℕ) → ((k : ℕ) → k < length ps → p (station_at es (get_or ps k 0)) ≡ false)
      → find p (map (station_at es) ps) ≡ None
  nobody [] fails = refl
  nobody (x ∷ ps) fails = rw (fails 0 (omega arith)) (nobody ps (λ k h. fails (suc k) (omega (arith, h))))

  -- that of one place does, and that of no other
  somebody : (ps : List ℕ) (i n : ℕ) → i < length ps → get_or ps i 0 ≡ n → p (station_at es n) ≡ true
      → ((k : ℕ) → k < length ps → p (station_at es (get_or ps k 0)) ≡ true → get_or ps k 0 ≡ n)
      → find p (map (station_at es) ps) ≡ Some (station_at es n)
  somebody [] i n h at holds alone = absurd (omega (arith, h))
  somebody (x ∷ ps) zero n h at holds alone =
      let here : p (station_at es x) ≡ true = ap (λ k. p (station_at es k)) at ∙ holds in
      rw here (ap (λ k. Some (station_at es k)) at)
  somebody (x ∷ ps) (suc i) n h at holds alone =
      pick (p (station_at es x)) (station_at es x) (station_at es n) (find p (map (station_at es) ps))
      (λ here. ap (station_at es) (alone 0 (omega arith) here))
      (somebody ps i n (omega (arith, h)) at holds (λ k lt passes. alone (suc k) (omega (arith, lt)) passes))

module _ (es : List Entry) (ps : List ℕ) (network code : List ℕ) (within : All (λ k. k < length es) ps)
    (distinct : HasDistinctCodes es) (n : ℕ) (has : has_codes network code (station_at es n) ≡ true) where
  below : (k : ℕ) → k < length ps → get_or ps k 0 < length es
  below k h = All-get_or (λ k. k < length es) ps k 0 h within

  -- a place whose station has them too
  alone : n < length es → (k : ℕ) → k < length es → has_codes network code (station_at es k) ≡ true → k ≡ n
  alone there k h holds =
      let one = same_codes (station_at es k) network code holds in
      let other = same_codes (station_at es n) network code has in
      distinct k n h (one.0 ∙ sym other.0, one.1 ∙ sym other.1)

  -- the station that has them is at one of the places
  pub place_found : n < length es → (i : ℕ) → i < length ps → get_or ps i 0 ≡ n
      → find (has_codes network code) (map (station_at es) ps) ≡ Some (station_at es n)
  place_found there i h at =
      somebody (has_codes network code) es ps i n h at has
      (λ k lt holds. alone there (get_or ps k 0) (below k lt) holds)
