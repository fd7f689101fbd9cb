-- Stations whose codes are distinct, one after the other.
use Rattle.std.proofs.Common.{◌≡◌, ℕ, ◌+◌, ◌<◌, ◌≤◌, zero, suc, inl, inr, Bool, ◌&&◌, true, false, List, [], ◌∷◌, ◌++◌}
use Rattle.std.proofs.Common.{length, get_or, None, refl, sym, ap, ◌∙◌, subst, arith, below_more, length-append}
use Rattle.std.specs.Str.{bytes_eq}
use Rattle.std.proofs.Math.Seq.{get_or-append_seam}
use Rattle.std.proofs.lemmas.Bool.{false≢true}
use Rattle.std.proofs.lemmas.Bool.Decides.{leb_tells}
use Rattle.std.proofs.lemmas.List.{get_or_append_left}
use Rattle.std.proofs.lemmas.List.Folds.{list_any_at}
use Rattle.std.proofs.lemmas.Option.{slice_get-get_or}
use Rattle.std.proofs.lemmas.Slice.Eq.{bytes_eq-Decides}
use Rattle.protocol.specs.Catalog.{Entry, Station, has_codes}
use Rattle.catalog.specs.Places.{station_at, nowhere, HasDistinctCodes, SameCodes}
use Rattle.catalog.specs.Reading.{is_repeated}

-- an entry where none is
pub nothing : Entry
nothing = record { station = nowhere; access = None }

-- the station at a place that is there
pub at_place : (es : List Entry) (i : ℕ) (d : Entry) → i < length es → station_at es i ≡ (get_or es i d).station
at_place es i d h = rw (slice_get-get_or es i d h) refl

length_more : (es : List Entry) (e : Entry) → length (es ++ e ∷ []) ≡ length es + 1
length_more es e = length-append es (e ∷ [])

-- one more station leaves the earlier ones where they are
at_before : (es : List Entry) (e : Entry) (i : ℕ) → i < length es → station_at (es ++ e ∷ []) i ≡ station_at es i
at_before es e i h =
    let more : i < length (es ++ e ∷ []) = omega (arith, length_more es e) in
    at_place (es ++ e ∷ []) i e more ∙ ap (λ x. x.station) (get_or_append_left es (e ∷ []) e i h)
    ∙ sym (at_place es i e h)

-- and stands behind them
at_end : (es : List Entry) (e : Entry) → station_at (es ++ e ∷ []) (length es) ≡ e.station
at_end es e =
    let more : length es < length (es ++ e ∷ []) = omega (arith, length_more es e) in
    at_place (es ++ e ∷ []) (length es) e more ∙ ap (λ x. x.station) (get_or-append_seam es e [] e)

both_true : (a b : Bool) → a ≡ true → b ≡ true → (a && b) ≡ true
both_true a b p q = rw (p, q) refl

same-has_codes : (s t : Station) → SameCodes t s → has_codes s.network s.code t ≡ true
same-has_codes s t same =
    both_true (bytes_eq t.network s.network) (bytes_eq t.code s.code) ((bytes_eq-Decides t.network s.network).1 same.0)
    ((bytes_eq-Decides t.code s.code).1 same.1)

-- a station whose codes are not there yet
not_among : (es : List Entry) (e : Entry) (i : ℕ) → i < length es → is_repeated es e.station ≡ false
    → SameCodes (station_at es i) e.station → ⊥
not_among es e i h apart same =
    let there : SameCodes (get_or es i e).station e.station = subst (λ (s : Station). SameCodes s e.station)
    (at_place es i e h) same in
    false≢true (sym apart ∙ list_any_at (λ x. has_codes e.station.network e.station.code x.station) es i e h
    (same-has_codes e.station (get_or es i e).station there))

turned : (s t : Station) → SameCodes s t → SameCodes t s
turned s t same = (sym same.0, sym same.1)

-- no station is behind the last
pub gone_at : (es : List Entry) (i : ℕ) → length es ≤ i → station_at es i ≡ nowhere
gone_at [] i h = refl
gone_at (e ∷ es) zero h = absurd (omega arith)
gone_at (e ∷ es) (suc i) h = gone_at es i (omega arith)

-- an earlier station beside an earlier one, beside the last, and beside a place that is not there
earlier_earlier : (es : List Entry) (e : Entry) → HasDistinctCodes es → (i j : ℕ) → i < length es → j < length es
    → SameCodes (station_at (es ++ e ∷ []) i) (station_at (es ++ e ∷ []) j) → i ≡ j
earlier_earlier es e distinct i j hi hj same =
    let here = subst (λ (s : Station). SameCodes s (station_at (es ++ e ∷ []) j)) (at_before es e i hi) same in
    distinct i j hi (subst (λ (s : Station). SameCodes (station_at es i) s) (at_before es e j hj) here)

earlier_last : (es : List Entry) (e : Entry) → is_repeated es e.station ≡ false → (i : ℕ) → i < length es
    → SameCodes (station_at (es ++ e ∷ []) i) (station_at (es ++ e ∷ []) (length es)) → ⊥
earlier_last es e apart i hi same =
    let here = subst (λ (s : Station). SameCodes s (station_at (es ++ e ∷ []) (length es)))
    (at_before es e i hi) same in
    not_among es e i hi apart (subst (λ (s : Station). SameCodes (station_at es i) s) (at_end es e) here)

earlier_gone : (es : List Entry) (e : Entry) → HasDistinctCodes es → (i : ℕ) → i < length es
    → SameCodes (station_at (es ++ e ∷ []) i) nowhere → ⊥
earlier_gone es e distinct i hi same =
    let here = subst (λ (s : Station). SameCodes s nowhere) (at_before es e i hi) same in
    let behind : i ≡ length es = distinct i (length es) hi
    (subst (λ (s : Station). SameCodes (station_at es i) s) (sym (gone_at es (length es) (omega arith))) here) in
    absurd (omega (arith, behind))

last_gone : (es : List Entry) (e : Entry) → 1 ≤ length e.station.network
    → SameCodes (station_at (es ++ e ∷ []) (length es)) nowhere → ⊥
last_gone es e some same =
    let none : length e.station.network ≡ 0 = ap (λ (s : Station). length s.network) (sym (at_end es e))
    ∙ ap length same.0 in
    absurd (omega (arith, none))

-- an earlier station beside any, and the last one
earlier_any : (es : List Entry) (e : Entry) → HasDistinctCodes es → is_repeated es e.station ≡ false → (i : ℕ)
    → i < length es
    → (j : ℕ) → j < length es + 1 → SameCodes (station_at (es ++ e ∷ []) i) (station_at (es ++ e ∷ []) j) → i ≡ j
earlier_any es e distinct apart i hi =
    below_more (λ j. SameCodes (station_at (es ++ e ∷ []) i) (station_at (es ++ e ∷ []) j) → i ≡ j) (length es)
    (λ j hj same. earlier_earlier es e distinct i j hi hj same)
    (λ same. absurd (earlier_last es e apart i hi same))

last_any : (es : List Entry) (e : Entry) → is_repeated es e.station ≡ false
    → (j : ℕ) → j < length es + 1 → SameCodes (station_at (es ++ e ∷ []) (length es)) (station_at (es ++ e ∷ []) j)
    → length es ≡ j
last_any es e apart =
    below_more (λ j. SameCodes (station_at (es ++ e ∷ []) (length es)) (station_at (es ++ e ∷ []) j) → length es ≡ j)
    (length es)
    (λ j hj same. absurd
    (earlier_last es e apart j hj
    (turned (station_at (es ++ e ∷ []) (length es)) (station_at (es ++ e ∷ []) j) same)))
    (λ same. refl)

any_gone : (es : List Entry) (e : Entry) → HasDistinctCodes es → 1 ≤ length e.station.network → (i : ℕ)
    → i < length es + 1 → SameCodes (station_at (es ++ e ∷ []) i) nowhere → ⊥
any_gone es e distinct some =
    below_more (λ i. SameCodes (station_at (es ++ e ∷ []) i) nowhere → ⊥) (length es) (earlier_gone es e distinct)
    (last_gone es e some)

-- no stations have distinct codes
pub distinct_none : HasDistinctCodes []
distinct_none i j h same = absurd (omega arith)

-- and so they have with one more that has a network code, and whose codes are not there yet
pub distinct_more : (es : List Entry) (e : Entry) → HasDistinctCodes es → is_repeated es e.station ≡ false
    → 1 ≤ length e.station.network → HasDistinctCodes (es ++ e ∷ [])
distinct_more es e distinct apart some i j hi same =
    let i_within : i < length es + 1 = omega (arith, length_more es e) in
    elim (leb_tells (length es + 1) j) [
      | inl beyond ↦
          let gone_ : station_at (es ++ e ∷ []) j
          ≡ nowhere = gone_at (es ++ e ∷ []) j (let over = beyond.1 in omega (arith, length_more es e)) in
          absurd
          (any_gone es e distinct some i i_within
          (subst (λ (s : Station). SameCodes (station_at (es ++ e ∷ []) i) s) gone_ same))
      | inr within ↦
          let j_within : j < length es + 1 = within.1 in
          below_more (λ i. (j : ℕ) → j < length es + 1
          → SameCodes (station_at (es ++ e ∷ []) i) (station_at (es ++ e ∷ []) j) → i ≡ j) (length es)
          (earlier_any es e distinct apart) (last_any es e apart) i i_within j j_within same
    ]

pub ruleset distinct_lemmas = (distinct_none, distinct_more)
