-- An index of stations' codes, one station after the other.
use Rattle.std.proofs.Common.{◌≡◌, ℕ, ◌+◌, ◌<◌, ◌≤◌, suc, inl, inr, Bool, ◌&&◌, true, false, List, [], ◌∷◌, ◌++◌}
use Rattle.std.proofs.Common.{length, take, get_or, All, Option, Some, None, refl, sym, ap, ◌∙◌, subst, arith}
use Rattle.std.specs.Prelude.{cond, is_some, ◌||◌, IfSome}
use Rattle.std.specs.List.{list_any, position, position_from}
use Rattle.std.specs.Str.{bytes_eq}
use Rattle.std.specs.HashMap.{IsEmpty, Updates}
use Rattle.std.specs.Map.{lookup}
use Rattle.std.proofs.Common.{ap₂}
use Rattle.std.proofs.lemmas.Bool.{false≢true}
use Rattle.std.proofs.lemmas.Bool.Decides.{leb_tells}
use Rattle.std.proofs.lemmas.List.{get_or-take, length-take-le}
use Rattle.std.proofs.lemmas.List.Elements.{All-get_or}
use Rattle.std.proofs.lemmas.List.Quantifiers.{position-Some}
use Rattle.std.proofs.lemmas.Iterator.Adapters.{position_from-zero}
use Rattle.std.proofs.lemmas.Slice.Eq.{bytes_eq-Decides}
use Rattle.protocol.specs.Catalog.{Entry, Station, has_codes}
use Rattle.protocol.specs.Reading.{Not}
use Rattle.text_parts.proofs.SpellingLemmas.{equal_spelled}
use Rattle.catalog.specs.Indexing.{Places, codes_eq, key, place_in, first_place}
use Rattle.catalog.specs.Indexing.{AreCodes, AreShort, Finds, HasShortCodes}
use Rattle.catalog.specs.Places.{station_at, HasDistinctCodes, SameCodes}
use Rattle.catalog.specs.Reading.{is_repeated}
use Rattle.catalog.specs.declared.codes.Codes.{Codes}
use Rattle.catalog.proofs.DistinctLemmas.{at_place, nothing}

-- ---- keys

-- keys are equal where their codes are
pub equal_codes : (s : Station) (network code : List ℕ) → AreCodes s.network s.code → AreCodes network code
    → codes_eq (key s.network s.code) (key network code) ≡ has_codes network code s
equal_codes s network code its those =
    ap₂ (λ a b. a && b)
    (equal_spelled s.network network (omega (arith, its.short.0)) (omega (arith, those.short.0))
    its.network_bytes those.network_bytes)
    (equal_spelled s.code code (omega (arith, its.short.1)) (omega (arith, those.short.1))
    its.code_bytes those.code_bytes)

-- two tests that both pass
both_pass : (a b : Bool) → (a && b) ≡ true → (a ≡ true) × (b ≡ true)
both_pass true true e = (refl, refl)
both_pass true false e = absurd (false≢true e)
both_pass false b e = absurd (false≢true e)

pub same_codes : (s : Station) (network code : List ℕ) → has_codes network code s ≡ true
    → (s.network ≡ network) × (s.code ≡ code)
same_codes s network code e =
    let each = both_pass (bytes_eq s.network network) (bytes_eq s.code code) e in
    ((bytes_eq-Decides s.network network).0 each.0, (bytes_eq-Decides s.code code).0 each.1)

-- ---- first places

-- the one, or else the other
abbrev or_place : Option ℕ → Option ℕ → Option ℕ
or_place (Some k) o = Some k
or_place None o = o

or_none : (o : Option ℕ) → or_place o None ≡ o
or_none None = refl
or_none (Some k) = refl

module _ (p : Entry → Bool) where
  -- one more behind some
  first_more : (n k : ℕ) (b : Bool) (es : List Entry) (o : Option ℕ)
      → position_from p (n + 1) es ≡ or_place o (cond b (Some (n + 1 + k)) None) → (c : Bool)
      → cond c (Some n) (position_from p (n + 1) es) ≡ or_place (cond c (Some n) o) (cond b (Some (n + suc k)) None)
  first_more n k b es o more true = refl
  first_more n k b es o more false = more
      ∙ ap (λ i. or_place o (cond b (Some i) None)) (let same : n + 1 + k ≡ n + suc k = omega arith in same)

  from_more : (n : ℕ) (es : List Entry) (e : Entry)
      → position_from p n (es ++ e ∷ []) ≡ or_place (position_from p n es) (cond (p e) (Some (n + length es)) None)
  from_more n [] e = ap (λ k. cond (p e) (Some k) None) (let same : n ≡ n + 0 = omega arith in same)
  from_more n (x ∷ es) e = first_more n (length es) (p e) (es ++ e ∷ []) (position_from p (n + 1) es)
      (from_more (n + 1) es e) (p x)

  -- none passes
  nobody_from : (n : ℕ) (es : List Entry) → ((k : ℕ) (d : Entry) → k < length es → p (get_or es k d) ≡ false)
      → position_from p n es ≡ None
  nobody_from n [] fails = refl
  nobody_from n (x ∷ es) fails =
      rw (fails 0 x (omega arith)) (nobody_from (n + 1) es (λ k d h. fails (suc k) d (omega (arith, h))))

  first_of : (es : List Entry) → position p es ≡ position_from p 0 es
  first_of es = position_from-zero p es

  -- one passes
  somebody_here : (b : Bool) (n : ℕ) (o : Option ℕ) (any : Bool) → is_some o ≡ any
      → is_some (cond b (Some n) o) ≡ (b || any)
  somebody_here true n o any later = refl
  somebody_here false n o any later = later

  somebody_from : (n : ℕ) (es : List Entry) → is_some (position_from p n es) ≡ list_any p es
  somebody_from n [] = refl
  somebody_from n (x ∷ es) =
      somebody_here (p x) n (position_from p (n + 1) es) (list_any p es) (somebody_from (n + 1) es)

-- no station has codes that are too long
pub nobody_with_long_codes : (es : List Entry) (network code : List ℕ) → All HasShortCodes es
    → Not (AreShort network code) → first_place es network code ≡ None
nobody_with_long_codes es network code short long =
    let p : Entry → Bool = λ e. has_codes network code e.station in
    first_of p es
    ∙ nobody_from p 0 es
    (λ k d h. by (get_or es k d) (p (get_or es k d)) refl (All-get_or HasShortCodes es k d h short))
  where
    by : (e : Entry) (b : Bool) → has_codes network code e.station ≡ b → HasShortCodes e → b ≡ false
    by e false is has = refl
    by e true is has =
        let same = same_codes e.station network code is in
        absurd (long (subst (λ l. length l ≤ 2) same.0 has.short.0, subst (λ l. length l ≤ 5) same.1 has.short.1))

-- ---- one station more

-- its codes are at no earlier place
apart : (es : List Entry) (i : ℕ) (d : Entry) → HasDistinctCodes es → i < length es
    → first_place (take i es) (get_or es i d).station.network (get_or es i d).station.code ≡ None
apart es i d distinct within =
    first_of p (take i es)
    ∙ nobody_from p 0 (take i es)
    (λ k x h. earlier k x (omega (arith, h, length-take-le i es (omega (arith, within)))))
  where
    s : Station
    s = (get_or es i d).station

    p : Entry → Bool
    p e = has_codes s.network s.code e.station

    by : (k : ℕ) (x : Entry) (b : Bool) → k < i → p (get_or es k x) ≡ b → b ≡ false
    by k x false lt is = refl
    by k x true lt is =
        let same = same_codes (get_or es k x).station s.network s.code is in
        let here : SameCodes (station_at es k) s = subst (λ (t : Station). SameCodes t s)
        (sym (at_place es k x (omega (arith, lt, within)))) same in
        let both : SameCodes (station_at es k)
        (station_at es i) = subst (λ (t : Station). SameCodes (station_at es k) t)
        (sym (at_place es i d within)) here in
        let one : k ≡ i = distinct k i (omega (arith, lt, within)) both in
        absurd (omega (arith, lt, one))

    earlier : (k : ℕ) (x : Entry) → k < i → p (get_or (take i es) k x) ≡ false
    earlier k x lt = rw (get_or-take i es k x lt) (by k x (p (get_or es k x)) lt refl)

-- an index of stations with one more
indexed : (m n : Places) (es : List Entry) (e : Entry) → HasShortCodes e → Finds m es
    → first_place es e.station.network e.station.code ≡ None
    → Updates codes_eq m n (key e.station.network e.station.code) (Some (length es)) → Finds n (es ++ e ∷ [])
indexed m n es e has finds none updates network code are =
    updates.0 (key network code)
    ∙ ap (λ b. cond b (Some (length es)) (place_in m network code)) (equal_codes e.station network code has are)
    ∙ by (p e) refl
    ∙ sym (from_more p 0 es e)
    ∙ sym (first_of p (es ++ e ∷ []))
  where
    p : Entry → Bool
    p x = has_codes network code x.station

    by : (b : Bool) → p e ≡ b → cond b (Some (length es)) (place_in m network code)
        ≡ or_place (position_from p 0 es) (cond b (Some (0 + length es)) None)
    by true is =
        let same = same_codes e.station network code is in
        let first : first_place es network code
        ≡ None = subst (λ c. first_place es network c ≡ None) same.1
        (subst (λ w. first_place es w e.station.code ≡ None) same.0 none) in
        rw (sym (first_of p es) ∙ first)
        (ap {B = Option ℕ} Some (let same : length es ≡ 0 + length es = omega arith in same))
    by false is = finds network code are ∙ first_of p es ∙ sym (or_none (position_from p 0 es))

-- whether an index has a station's codes
pub repeated_found : (m : Places) (es : List Entry) (e : Entry) → HasShortCodes e → Finds m es
    → is_some (place_in m e.station.network e.station.code) ≡ is_repeated es e.station
repeated_found m es e has finds =
    ap is_some (finds e.station.network e.station.code has ∙ first_of p es) ∙ somebody_from p 0 es
  where
    p : Entry → Bool
    p x = has_codes e.station.network e.station.code x.station

is_none_of : (o : Option ℕ) → is_some o ≡ false → o ≡ None
is_none_of None none = refl
is_none_of (Some x) none = absurd cc

-- a station whose codes are at none of them
pub index_next : (m n : Places) (es : List Entry) (e : Entry) → HasShortCodes e → Finds m es
    → Updates codes_eq m n (key e.station.network e.station.code) (Some (length es))
    → is_some (place_in m e.station.network e.station.code) ≡ false → Finds n (es ++ e ∷ [])
index_next m n es e has finds updates none =
    indexed m n es e has finds
    (sym (finds e.station.network e.station.code has)
    ∙ is_none_of (place_in m e.station.network e.station.code) none)
    updates

-- no earlier station has the codes of a list's, if they are distinct
pub not_repeated_at : (es : List Entry) (i : ℕ) (d e : Entry) → HasDistinctCodes es → i < length es
    → e ≡ get_or es i d → is_repeated (take i es) e.station ≡ false
not_repeated_at es i d e distinct within at =
    subst (λ (x : Entry). is_repeated (take i es) x.station ≡ false) (sym at)
    (sym (somebody_from p 0 (take i es)) ∙ ap is_some (sym (first_of p (take i es)) ∙ apart es i d distinct within))
  where
    p : Entry → Bool
    p x = has_codes (get_or es i d).station.network (get_or es i d).station.code x.station

-- nothing is found in an empty map
pub found_nowhere : (m : Places) → IsEmpty m → Finds m []
found_nowhere m empty network code are =
    ap (λ (es : List (Codes × ℕ)). lookup (codes_eq (key network code)) es) empty

-- codes that are short are found in the index, and no station has others
pub place_found : (m : Places) (es : List Entry) (network code : List ℕ) (r : Option ℕ) → All HasShortCodes es
    → Finds m es
    → (AreShort network code → r ≡ place_in m network code) → (AreShort network code → AreCodes network code)
    → (Not (AreShort network code) → r ≡ None) → r ≡ first_place es network code
place_found m es network code r short finds found are none =
    let gone : Not (AreShort network code) → r ≡ first_place es network code = λ long. none long
    ∙ sym (nobody_with_long_codes es network code short long) in
    elim (leb_tells (length network) 2) [
      | inl few ↦ elim (leb_tells (length code) 5) [
        | inl letters ↦ found (few.1, letters.1) ∙ finds network code (are (few.1, letters.1))
        | inr more ↦ gone (λ both. let over = more.1 in let under = both.1 in absurd (omega (arith, over, under)))
      ]
      | inr more ↦ gone (λ both. let over = more.1 in let under = both.0 in absurd (omega (arith, over, under)))
    ]

-- a place that is found is one of the stations'
pub few_places : (es : List Entry) (network code : List ℕ) (r : Option ℕ) → r ≡ first_place es network code
    → length es ≤ 1024 → IfSome r (λ place. place < 1024)
few_places es network code None is few = tt
few_places es network code (Some k) is few =
    let found = position-Some (λ e. has_codes network code e.station) es k nothing (sym is) in
    let there : k < length es = found.0 in
    omega arith
